-- The translation keeps the labels of each function in their order.
use Rattle.std.proofs.Common.{◌≡◌, ℕ, suc, ◌+◌, List, [], ◌∷◌, Option, Some, None, Bool, true, false, refl, sym, ap, ◌∙◌, subst}
use Rattle.std.specs.Prelude.{slice_get, option_map, if◌then◌else◌}
use Rattle.std.proofs.lemmas.Option.{same_Some}
use Rattle.std.proofs.lemmas.List.{length-map}
use Rattle.cerco_base.specs.declared.events.Label.{Label}
use Rattle.cerco_middle.specs.declared.operators.Held.{Held}
use Rattle.cerco_middle.specs.Cminor.Trees as cm
use Rattle.cerco_middle.specs.Cminor.Trees.{CmExpr, CmStmts, CmFunction}
use Rattle.c_types.specs.Types.{CType}
use Rattle.c_types.specs.Kinds.{is_scalar}
use Rattle.clight_syntax.specs.declared.typed.Home.{Home}
use Rattle.clight_syntax.specs.declared.typed.Home.TheVariants as home
use Rattle.clight_syntax.specs.TypedTrees.{Cond, Truth, InParentheses, Not, Both, Either, Assignment, Stmt, Empty, Block, Assign, ReadPort, WritePort, CallOf, If, IfElse, While, Do, For, Break, Continue, Return, Stmts, NoStmts, Then, LocalInitialiser, NoValue, Value, Local, Function, Variable', TypedProgram, own_variables}
use Rattle.clight_programs.specs.Labels.{cond_labels, cond_labels_if_any, stmt_labels, stmts_labels, function_labels}
use Rattle.cminor_gen.specs.Translation.Expressions as x
use Rattle.cminor_gen.specs.Translation.Statements as s
use Rattle.cminor_gen.specs.Translation.Programs.{translated}
use Rattle.cminor_gen.specs.Promises.{OfBoth, KeepsFunction, KeepsProgram}
use Rattle.cminor_gen.proofs.Runs.{get_map}

module _ (p : TypedProgram Label) where
  same_cond : (c : Cond Label) (more : List ℕ) → cm.cond_labels (x.condition p c) more ≡ cond_labels c more
  same_cond (Truth e) more = refl
  same_cond (InParentheses lf c rt) more = same_cond c more
  same_cond (Not at c) more = same_cond c more
  same_cond (Both l at t f r) more = ap (λ m. cm.cond_labels (x.condition p l) (t.0 ∷ f.0 ∷ m)) (same_cond r more) ∙ same_cond l (t.0 ∷ f.0 ∷ cond_labels r more)
  same_cond (Either l at t f r) more = ap (λ m. cm.cond_labels (x.condition p l) (t.0 ∷ f.0 ∷ m)) (same_cond r more) ∙ same_cond l (t.0 ∷ f.0 ∷ cond_labels r more)

  no_labels : (o : Option ℕ) (h : Held) (a e : CmExpr) (more : List ℕ) → cm.stmt_labels (s.set_or_store o h a e) more ≡ more
  no_labels (Some n) h a e more = refl
  no_labels None h a e more = refl

  assignment_labels : (a : Option Assignment) (more : List ℕ) → cm.stmt_labels (s.assignment_if_any p a) more ≡ more
  assignment_labels None more = refl
  assignment_labels (Some a) more = no_labels (x.scalar_at p a.target) _ _ _ more

  port_labels : (o : Option ℕ) (more : List ℕ) → cm.stmt_labels (s.read_port o) more ≡ more
  port_labels None more = refl
  port_labels (Some n) more = refl

  same_cond_if_any : (c : Option (Cond Label)) (more : List ℕ) → cm.cond_labels_if_any (option_map (x.condition p) c) more ≡ cond_labels_if_any c more
  same_cond_if_any None more = refl
  same_cond_if_any (Some c) more = same_cond c more

  mutual
    same_stmt : (a : Stmt Label) (more : List ℕ) → cm.stmt_labels (s.statement p a) more ≡ stmt_labels a more
    same_stmt (Empty semicolon) more = refl
    same_stmt (Block lf body rt) more = same_stmts body cm.NoStmts more
    same_stmt (Assign a semicolon) more = no_labels (x.scalar_at p a.target) _ _ _ more
    same_stmt (ReadPort target equals port semicolon) more = port_labels (x.scalar_at p target) more
    same_stmt (WritePort port equals e semicolon) more = refl
    same_stmt (CallOf c semicolon back) more = refl
    same_stmt (If tst one arm other) more =
        ap (λ m. cm.cond_labels (x.condition p tst.condition) (one.0 ∷ m)) (same_stmt arm (other.0 ∷ more)) ∙ same_cond tst.condition (one.0 ∷ stmt_labels arm (other.0 ∷ more))
    same_stmt (IfElse tst one arm keyword other otherwise) more =
        ap (λ m. cm.cond_labels (x.condition p tst.condition) (one.0 ∷ cm.stmt_labels (s.statement p arm) (other.0 ∷ m))) (same_stmt otherwise more)
        ∙ ap (λ m. cm.cond_labels (x.condition p tst.condition) (one.0 ∷ m)) (same_stmt arm (other.0 ∷ stmt_labels otherwise more)) ∙ same_cond tst.condition (one.0 ∷ stmt_labels arm (other.0 ∷ stmt_labels otherwise more))
    same_stmt (While tst turn body after) more =
        ap (λ m. cm.cond_labels (x.condition p tst.condition) (turn.0 ∷ m)) (same_stmt body (after.0 ∷ more)) ∙ same_cond tst.condition (turn.0 ∷ stmt_labels body (after.0 ∷ more))
    same_stmt (Do keyword body tst back semicolon after) more =
        ap (λ m. cm.stmt_labels (s.statement p body) m) (same_cond tst.condition (back.0 ∷ after.0 ∷ more)) ∙ same_stmt body (cond_labels tst.condition (back.0 ∷ after.0 ∷ more))
    same_stmt (For head turn body after) more =
        assignment_labels head.first _
        ∙ ap (λ m. cm.cond_labels_if_any (option_map (x.condition p) head.condition) (turn.0 ∷ cm.stmt_labels (s.statement p body) m)) (assignment_labels head.step (after.0 ∷ more))
        ∙ ap (λ m. cm.cond_labels_if_any (option_map (x.condition p) head.condition) (turn.0 ∷ m)) (same_stmt body (after.0 ∷ more))
        ∙ same_cond_if_any head.condition (turn.0 ∷ stmt_labels body (after.0 ∷ more))
    same_stmt (Break keyword semicolon) more = refl
    same_stmt (Continue keyword semicolon) more = refl
    same_stmt (Return keyword e semicolon) more = refl

    same_stmts : (ss : Stmts Label) (earlier : CmStmts) (more : List ℕ) → cm.stmts_labels (s.statements_after p ss earlier) more ≡ cm.stmts_labels earlier (stmts_labels ss more)
    same_stmts NoStmts earlier more = refl
    same_stmts (Then ss a) earlier more = ap (cm.stmts_labels (s.statements_after p ss earlier)) (same_stmt a more) ∙ same_stmts ss earlier (stmt_labels a more)

  home_labels : (q : Home) (T : CType) (a n : ℕ) (earlier : CmStmts) (more : List ℕ) → cm.stmts_labels (s.home_after q T a n earlier) more ≡ cm.stmts_labels earlier more
  home_labels (home.Global b) T a n earlier more = refl
  home_labels (home.Block b) T a n earlier more = refl
  home_labels (home.Scalar i) T a n earlier more = refl

  homes_labels : (ys : List Variable') (n : ℕ) (earlier : CmStmts) (more : List ℕ) → cm.stmts_labels (s.homes_after ys n earlier) more ≡ cm.stmts_labels earlier more
  homes_labels [] n earlier more = refl
  homes_labels (y ∷ ys) n earlier more = by (is_scalar y.type) (λ n earlier. homes_labels ys n earlier more)
    where
      by : (t : Bool) → ((n : ℕ) (earlier : CmStmts) → cm.stmts_labels (s.homes_after ys n earlier) more ≡ cm.stmts_labels earlier more)
          → cm.stmts_labels (if t then s.homes_after ys (suc n) (s.home_after y.home y.type y.address n earlier) else s.homes_after ys n earlier) more ≡ cm.stmts_labels earlier more
      by true ih = ih (suc n) (s.home_after y.home y.type y.address n earlier) ∙ home_labels y.home y.type y.address n earlier more
      by false ih = ih n earlier

  initialiser_labels : (i : LocalInitialiser) (n : ℕ) (earlier : CmStmts) (more : List ℕ) → cm.stmts_labels (s.initialiser_after p n i earlier) more ≡ cm.stmts_labels earlier more
  initialiser_labels NoValue n earlier more = refl
  initialiser_labels (Value equals e) n earlier more = ap (cm.stmts_labels earlier) (no_labels (x.scalar_in (slice_get p.variables n)) _ _ _ more)

  initialisers_labels : (ls : List Local) (n : ℕ) (earlier : CmStmts) (more : List ℕ) → cm.stmts_labels (s.initialisers_after p ls n earlier) more ≡ cm.stmts_labels earlier more
  initialisers_labels [] n earlier more = refl
  initialisers_labels (l ∷ ls) n earlier more = initialisers_labels ls (suc n) (s.initialiser_after p n l.initialiser earlier) more ∙ initialiser_labels l.initialiser n earlier more

  pub same_function : (f : Function Label) (more : List ℕ) → (s.function p f).label.0 ∷ cm.stmt_labels (s.function p f).body more ≡ function_labels f more
  same_function f more =
      ap (λ l. f.label.0 ∷ l) (same_stmts f.body (s.prologue p f) more ∙ initialisers_labels f.locals (f.first_variable + f.parameters) (s.homes_after (own_variables f p.variables) 0 cm.NoStmts) (stmts_labels f.body more)
      ∙ homes_labels (own_variables f p.variables) 0 cm.NoStmts (stmts_labels f.body more))

  -- what holds of each function and its translation
  pub of_both : (Holds : Function Label → CmFunction → Type 0) → ((f : Function Label) → Holds f (s.function p f)) → OfBoth p (translated p) Holds
  of_both Holds all i f g is is' = subst (Holds f) (same_Some _ _ (sym (get_map (s.function p) p.functions i f is) ∙ is')) (all f)

  pub keeps : KeepsProgram p (translated p)
  keeps = record {
    count = length-map p.functions (s.function p);
    functions = of_both KeepsFunction (λ f. record { params = refl; labels = same_function f [] });
    calls = refl;
    main = refl;
  }
