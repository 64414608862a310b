-- Each typed program can be given its cost labels: they are numbered along its annotations.
use Rattle.std.proofs.Common.{◌≡◌, ℕ, zero, suc, ◌+◌, List, [], ◌∷◌, ◌++◌, length, map, Option, Some, None, refl, sym, ap, ap₂, ◌∙◌, arith}
use Rattle.std.specs.Prelude.{option_map}
use Rattle.std.specs.List.{flat_map, range_with_len}
use Rattle.std.proofs.lemmas.List.{map-append, length-map}
use Rattle.std.proofs.lemmas.List.FromFn.{length-range_with_len}
use Rattle.std.proofs.lemmas.Grind.{flat_map-append}
use Rattle.cerco_base.specs.declared.events.Label.{Label}
use Rattle.clight_syntax.specs.declared.points.Piece.{Piece}
use Rattle.clight_syntax.specs.declared.points.Piece.TheVariants.{Start, After, ArmOpen, ArmClose, ThenClose, BodyClose, DoOpen, DoClose, CondOpen, CondBoth, CondRepeat}
use Rattle.clight_syntax.specs.declared.points.Point.{Point}
use Rattle.clight_syntax.specs.Annotations.{labels_of, labels_in, AreNumberedInOrder}
use Rattle.clight_syntax.specs.Labelling.{cond_without, stmt_without, stmts_without, function_without, cond_from, cond_to, stmt_from, point, between, cond_points, head_points, stmt_points, stmts_points, function_points, points_of}
use Rattle.clight_syntax.specs.TypedTrees.{Cond, Truth, InParentheses, Not, Both, Either, Test, ForHead, Stmt, Empty, Block, Assign, ReadPort, WritePort, CallOf, If, IfElse, While, Do, For, Break, Continue, Return, Stmts, NoStmts, Then, Function, TypedProgram}
use Rattle.text_answers.specs.Answers.{LabelsAreGiven}

-- ---- numbers along annotations

abbrev numbers : List Point → List ℕ
numbers qs = map (λ (l : Label). l.0) (labels_in qs)

-- the labels of these annotations are numbered from n on, and m is the next number
record Counts (n : ℕ) (qs : List Point) (m : ℕ) : Type 0 where
  len : ℕ
  are : numbers qs ≡ range_with_len n len
  next : m ≡ n + len

range_both : (n j k : ℕ) → range_with_len n j ++ range_with_len (n + j) k ≡ range_with_len n (j + k)
range_both n zero k = let e : n + 0 ≡ n = omega arith in let f : 0 + k ≡ k = omega arith in ap (λ m. range_with_len m k) e ∙ ap (range_with_len n) (sym f)
range_both n (suc j) k =
    let e : n + suc j ≡ n + 1 + j = omega arith in
    let f : suc j + k ≡ suc (j + k) = omega arith in
    ap (λ m. n ∷ (range_with_len (n + 1) j ++ range_with_len m k)) e ∙ ap (λ r. n ∷ r) (range_both (n + 1) j k) ∙ ap (range_with_len n) (sym f)

then' : (n m k : ℕ) (qs rs : List Point) → Counts n qs m → Counts m rs k → Counts n (qs ++ rs) k
then' n m k qs rs a b =
    let a' = a.next in
    let b' = b.next in
    record {
      len = a.len + b.len;
      are = ap (λ ls. map (λ (l : Label). l.0) ls) (flat_map-append (λ (q : Point). labels_of q.piece) qs rs) ∙ map-append (λ (l : Label). l.0) (labels_in qs) (labels_in rs)
          ∙ ap₂ (λ xs ys. xs ++ ys) a.are (b.are ∙ ap (λ i. range_with_len i b.len) a.next) ∙ range_both n a.len b.len;
      next = omega arith;
    }

empty : (n : ℕ) → Counts n [] n
empty n = record { len = 0; are = refl; next = omega arith }

-- an annotation without a label, with one, and with two

silent : (n at : ℕ) (piece : Piece) → labels_of piece ≡ [] → Counts n (point at piece ∷ []) n
silent n at piece is = record { len = 0; are = ap (λ ls. map (λ (l : Label). l.0) (ls ++ [])) is; next = omega arith }

abbrev numbered : ℕ → Label
numbered n = record { 0 = n }

one : (n at : ℕ) (piece : Piece) → labels_of piece ≡ numbered n ∷ [] → Counts n (point at piece ∷ []) (suc n)
one n at piece is = record { len = 1; are = ap (λ ls. map (λ (l : Label). l.0) (ls ++ [])) is; next = omega arith }

two : (n at : ℕ) → Counts n (point at (CondBoth (numbered n) (numbered (suc n))) ∷ []) (suc (suc n))
two n at = let e : suc n ≡ n + 1 = omega arith in record { len = 2; are = ap (λ m. n ∷ m ∷ []) e; next = omega arith }

-- annotations before and behind others
around : (n n' m m' : ℕ) (before behind : Point) (qs : List Point) → Counts n (before ∷ []) n' → Counts n' qs m → Counts m (behind ∷ []) m' → Counts n (between before qs behind) m'
around n n' m m' before behind qs a b c = then' n n' m' (before ∷ []) (qs ++ behind ∷ []) a (then' n' m m' qs (behind ∷ []) b c)

-- ---- conditions

abbrev C : Type 0
C = Cond (Unit {0})

record LabelsCond (n : ℕ) (c : C) : Type 0 where
  next : ℕ
  labelled : Cond Label
  same : cond_without labelled ≡ c
  counts : Counts n (cond_points labelled) next

-- the left operand of `&&` or `||` with its labels
operand : (n : ℕ) (l : C) (a : LabelsCond n l) → Counts n (between (point (cond_from a.labelled) CondOpen) (cond_points a.labelled) (point (cond_to a.labelled) (CondBoth (numbered a.next) (numbered (suc a.next))))) (suc (suc a.next))
operand n l a = around n n a.next (suc (suc a.next)) _ _ (cond_points a.labelled) (silent n _ CondOpen refl) a.counts (two a.next _)

label_cond : (n : ℕ) (c : C) → LabelsCond n c
label_cond n (Truth e) = record { next = n; labelled = Truth e; same = refl; counts = empty n }
label_cond n (InParentheses left c right) =
    let a = label_cond n c in record { next = a.next; labelled = InParentheses left a.labelled right; same = ap (λ c. InParentheses left c right) a.same; counts = a.counts }
label_cond n (Not at c) = let a = label_cond n c in record { next = a.next; labelled = Not at a.labelled; same = ap (Not at) a.same; counts = a.counts }
label_cond n (Both l at on_true on_false r) =
    let a = label_cond n l in
    let b = label_cond (suc (suc a.next)) r in
    record {
      next = b.next;
      labelled = Both a.labelled at (numbered a.next) (numbered (suc a.next)) b.labelled;
      same = ap₂ (λ l r. Both l at tt tt r) a.same b.same;
      counts = then' n (suc (suc a.next)) b.next _ (cond_points b.labelled) (operand n l a) b.counts;
    }
label_cond n (Either l at on_true on_false r) =
    let a = label_cond n l in
    let b = label_cond (suc (suc a.next)) r in
    record {
      next = b.next;
      labelled = Either a.labelled at (numbered a.next) (numbered (suc a.next)) b.labelled;
      same = ap₂ (λ l r. Either l at tt tt r) a.same b.same;
      counts = then' n (suc (suc a.next)) b.next _ (cond_points b.labelled) (operand n l a) b.counts;
    }

-- the condition of a `for`, if there is one
record LabelsHead (n : ℕ) (o : Option C) : Type 0 where
  next : ℕ
  labelled : Option (Cond Label)
  same : option_map cond_without labelled ≡ o
  counts : Counts n (head_points labelled) next

label_head : (n : ℕ) (o : Option C) → LabelsHead n o
label_head n None = record { next = n; labelled = None; same = refl; counts = empty n }
label_head n (Some c) = let a = label_cond n c in record { next = a.next; labelled = Some a.labelled; same = ap Some a.same; counts = a.counts }

abbrev with_condition : Test (Unit {0}) → Cond Label → Test Label
with_condition t c = record { keyword = t.keyword; left = t.left; condition = c; right = t.right }

abbrev with_head : ForHead (Unit {0}) → Option (Cond Label) → ForHead Label
with_head h c = record {
  keyword = h.keyword;
  left = h.left;
  first = h.first;
  first_semicolon = h.first_semicolon;
  condition = c;
  second_semicolon = h.second_semicolon;
  step = h.step;
  right = h.right;
}

-- ---- statements

abbrev S : Type 0
S = Stmt (Unit {0})

record LabelsStmt (n : ℕ) (x : S) : Type 0 where
  next : ℕ
  labelled : Stmt Label
  same : stmt_without labelled ≡ x
  counts : Counts n (stmt_points labelled) next

record LabelsStmts (n : ℕ) (xs : Stmts (Unit {0})) : Type 0 where
  next : ℕ
  labelled : Stmts Label
  same : stmts_without labelled ≡ xs
  counts : Counts n (stmts_points labelled) next

-- a part that is labelled, between an annotation with a label and one with or without
opened : (n : ℕ) (x : S) (a : LabelsStmt (suc n) x) (behind : Point) (m : ℕ) → Counts a.next (behind ∷ []) m → Counts n (between (point (stmt_from a.labelled) (ArmOpen (numbered n))) (stmt_points a.labelled) behind) m
opened n x a behind m c = around n (suc n) a.next m _ behind (stmt_points a.labelled) (one n _ (ArmOpen (numbered n)) refl) a.counts c

mutual
  label_stmt : (n : ℕ) (x : S) → LabelsStmt n x
  label_stmt n (Empty semicolon) = record { next = n; labelled = Empty semicolon; same = refl; counts = empty n }
  label_stmt n (Block left body right) =
      let a = label_stmts n body in record { next = a.next; labelled = Block left a.labelled right; same = ap (λ b. Block left b right) a.same; counts = a.counts }
  label_stmt n (Assign x semicolon) = record { next = n; labelled = Assign x semicolon; same = refl; counts = empty n }
  label_stmt n (ReadPort target equals port semicolon) = record { next = n; labelled = ReadPort target equals port semicolon; same = refl; counts = empty n }
  label_stmt n (WritePort port equals e semicolon) = record { next = n; labelled = WritePort port equals e semicolon; same = refl; counts = empty n }
  label_stmt n (CallOf call semicolon back) = record { next = suc n; labelled = CallOf call semicolon (numbered n); same = refl; counts = one n _ (After (numbered n)) refl }
  label_stmt n (If test t arm other) =
      let c = label_cond n test.condition in
      let a = label_stmt (suc c.next) arm in
      record {
        next = suc a.next;
        labelled = If (with_condition test c.labelled) (numbered c.next) a.labelled (numbered a.next);
        same = ap₂ (λ c x. If (record test { condition = c }) tt x tt) c.same a.same;
        counts = then' n c.next (suc a.next) (cond_points c.labelled) _ c.counts (opened c.next arm a _ (suc a.next) (one a.next _ (ThenClose (numbered a.next)) refl));
      }
  label_stmt n (IfElse test t arm keyword other otherwise) =
      let c = label_cond n test.condition in
      let a = label_stmt (suc c.next) arm in
      let b = label_stmt (suc a.next) otherwise in
      record {
        next = b.next;
        labelled = IfElse (with_condition test c.labelled) (numbered c.next) a.labelled keyword (numbered a.next) b.labelled;
        same = ap₂ (λ c x. IfElse (record test { condition = c }) tt x keyword tt (stmt_without b.labelled)) c.same a.same ∙ ap (λ y. IfElse test tt arm keyword tt y) b.same;
        counts = then' n c.next b.next (cond_points c.labelled) _ c.counts
            (then' c.next a.next b.next _ _ (opened c.next arm a _ a.next (silent a.next _ ArmClose refl)) (opened a.next otherwise b _ b.next (silent b.next _ ArmClose refl)));
      }
  label_stmt n (While test turn body after) =
      let c = label_cond n test.condition in
      let a = label_stmt (suc c.next) body in
      record {
        next = suc a.next;
        labelled = While (with_condition test c.labelled) (numbered c.next) a.labelled (numbered a.next);
        same = ap₂ (λ c x. While (record test { condition = c }) tt x tt) c.same a.same;
        counts = then' n c.next (suc a.next) (cond_points c.labelled) _ c.counts (opened c.next body a _ (suc a.next) (one a.next _ (BodyClose (numbered a.next)) refl));
      }
  label_stmt n (Do keyword body test again semicolon after) =
      let a = label_stmt n body in
      let c = label_cond a.next test.condition in
      record {
        next = suc (suc c.next);
        labelled = Do keyword a.labelled (with_condition test c.labelled) (numbered c.next) semicolon (numbered (suc c.next));
        same = ap₂ (λ x c. Do keyword x (record test { condition = c }) tt semicolon tt) a.same c.same;
        counts = then' n a.next (suc (suc c.next)) _ _ (around n n a.next a.next _ _ (stmt_points a.labelled) (silent n _ DoOpen refl) a.counts (silent a.next _ DoClose refl))
            (then' a.next (suc c.next) (suc (suc c.next)) _ _
            (around a.next a.next c.next (suc c.next) _ _ (cond_points c.labelled) (silent a.next _ CondOpen refl) c.counts (one c.next _ (CondRepeat (numbered c.next)) refl))
            (one (suc c.next) _ (After (numbered (suc c.next))) refl));
      }
  label_stmt n (For head turn body after) =
      let c = label_head n head.condition in
      let a = label_stmt (suc c.next) body in
      record {
        next = suc a.next;
        labelled = For (with_head head c.labelled) (numbered c.next) a.labelled (numbered a.next);
        same = ap₂ (λ c x. For (record head { condition = c }) tt x tt) c.same a.same;
        counts = then' n c.next (suc a.next) (head_points c.labelled) _ c.counts (opened c.next body a _ (suc a.next) (one a.next _ (BodyClose (numbered a.next)) refl));
      }
  label_stmt n (Break keyword semicolon) = record { next = n; labelled = Break keyword semicolon; same = refl; counts = empty n }
  label_stmt n (Continue keyword semicolon) = record { next = n; labelled = Continue keyword semicolon; same = refl; counts = empty n }
  label_stmt n (Return keyword e semicolon) = record { next = n; labelled = Return keyword e semicolon; same = refl; counts = empty n }

  label_stmts : (n : ℕ) (xs : Stmts (Unit {0})) → LabelsStmts n xs
  label_stmts n NoStmts = record { next = n; labelled = NoStmts; same = refl; counts = empty n }
  label_stmts n (Then earlier last) =
      let a = label_stmts n earlier in
      let b = label_stmt a.next last in
      record {
        next = b.next;
        labelled = Then a.labelled b.labelled;
        same = ap₂ (λ xs x. Then xs x) a.same b.same;
        counts = then' n a.next b.next (stmts_points a.labelled) (stmt_points b.labelled) a.counts b.counts;
      }

-- ---- functions

abbrev F : Type 0
F = Function (Unit {0})

record LabelsFunctions (n : ℕ) (fs : List F) : Type 0 where
  next : ℕ
  labelled : List (Function Label)
  same : map function_without labelled ≡ fs
  counts : Counts n (flat_map function_points labelled) next

abbrev with_labels : F → Label → Stmts Label → Function Label
with_labels f label body = record {
  header = f.header;
  result = f.result;
  first_variable = f.first_variable;
  parameters = f.parameters;
  left = f.left;
  label = label;
  locals = f.locals;
  body = body;
  right = f.right;
}

label_functions : (n : ℕ) (fs : List F) → LabelsFunctions n fs
label_functions n [] = record { next = n; labelled = []; same = refl; counts = empty n }
label_functions n (f ∷ fs) =
    let a = label_stmts (suc n) f.body in
    let b = label_functions a.next fs in
    let g = with_labels f (numbered n) a.labelled in
    record {
      next = b.next;
      labelled = g ∷ b.labelled;
      same = ap₂ (λ body fs. record f { body = body } ∷ fs) a.same b.same;
      counts = then' n a.next b.next (function_points g) (flat_map function_points b.labelled)
          (then' n (suc n) a.next (point f.left.to (After (numbered n)) ∷ []) (stmts_points a.labelled) (one n _ (After (numbered n)) refl) a.counts) b.counts;
    }

-- ---- programs

abbrev with_functions : TypedProgram (Unit {0}) → List (Function Label) → TypedProgram Label
with_functions t functions = record {
  names = t.names;
  items = t.items;
  span = t.span;
  structs = t.structs;
  variables = t.variables;
  functions = functions;
  main = t.main;
  frames = t.frames;
  data_bytes = t.data_bytes;
  calls = t.calls;
}

in_order : (qs : List Point) (m : ℕ) → Counts 0 qs m → AreNumberedInOrder (labels_in qs)
in_order qs m c =
    let count : length (labels_in qs) ≡ c.len = sym (length-map (labels_in qs) (λ (l : Label). l.0)) ∙ ap length c.are ∙ length-range_with_len 0 c.len in
    c.are ∙ ap (range_with_len 0) (sym count)

pub labels_are_given : LabelsAreGiven
labels_are_given t =
    let a = label_functions 0 t.functions in
    let p = with_functions t a.labelled in (
      p,
      record {
        typed_alone = ap (λ fs. record t { functions = fs }) a.same;
        numbered = in_order (points_of p) a.next (then' 0 0 a.next (point 0 Start ∷ []) (flat_map function_points a.labelled) (silent 0 0 Start refl) a.counts);
      },
    )
