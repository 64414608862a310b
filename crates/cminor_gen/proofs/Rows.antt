-- Lists of translated statements to which one more is added.
use Rattle.std.proofs.Common.{◌≡◌, ℕ, suc, ◌+◌, ◌-◌, ◌%◌, ◌<◌, Option, Vec, Global, arith, append_assoc, List, [], ◌∷◌, ◌++◌, length, take, get_or, sym, ap, ap₂, ◌∙◌}
use Rattle.std.proofs.lemmas.List.{take_more}
use Rattle.cerco_base.specs.declared.events.Label.{Label}
use Rattle.cerco_middle.specs.declared.cminor.CmStmt.{CmStmt}
use Rattle.cerco_middle.specs.Cminor.Trees as m
use Rattle.cerco_middle.specs.Code.Views.{stmt_of as cm_stmt_of, stmts_of as cm_stmts_of}
use Rattle.cerco_middle.specs.declared.cminor.CmStmt.TheVariants as variant
use Rattle.cerco_middle.proofs.CminorRows.{seq_is, stmts_onto-more}
use Rattle.clight_syntax.specs.declared.typed.Stmt.{Stmt}
use Rattle.clight_syntax.specs.TypedTrees as p
use Rattle.clight_syntax.specs.Code.TypedViews.{stmt_of, stmts_of}
use Rattle.clight_syntax.proofs.TypedRows as rows
use Rattle.std.specs.Prelude.{slice_get}
use Rattle.c_types.specs.Types.{bytes}
use Rattle.c_types.specs.declared.integers.IntegerType.{IntegerType}
use Rattle.clight_source.specs.declared.tree.SignedNumber.{SignedNumber}
use Rattle.cminor_gen.specs.Translation.Start.{first_bits, bytes_from, integers_from}
use Rattle.cminor_gen.specs.Translation.Statements.{statement, statements_after}

pub seq_holds : (all : Vec CmStmt Global) → cm_stmt_of (variant.Seq all) ≡ m.Seq (cm_stmts_of all.items)
seq_holds all = seq_is all

-- one statement more
pub stmts_of-more : (xs : List CmStmt) (x : CmStmt) → cm_stmts_of (xs ++ x ∷ []) ≡ m.Then (cm_stmts_of xs) (cm_stmt_of x)
stmts_of-more xs x = stmts_onto-more xs x m.NoStmts

pub added : (list all : List CmStmt) (x : CmStmt) (s : m.CmStmt) → cm_stmt_of x ≡ s → all ≡ list ++ x ∷ [] → cm_stmts_of all ≡ m.Then (cm_stmts_of list) s
added list all x s e is = ap cm_stmts_of is ∙ stmts_of-more list x ∙ ap (λ t. m.Then (cm_stmts_of list) t) e

pub added_on : (program : p.TypedProgram Label) (list all : List CmStmt) (x : CmStmt) (earlier : m.CmStmts) (xs : List (Stmt Label)) (i : ℕ) (d : Stmt Label) → i < length xs
    → cm_stmts_of list ≡ statements_after program (stmts_of (take i xs)) earlier → cm_stmt_of x ≡ statement program (stmt_of (get_or xs i d)) → all ≡ list ++ x ∷ []
    → cm_stmts_of all ≡ statements_after program (stmts_of (take (i + 1) xs)) earlier
added_on program list all x earlier xs i d within e f is =
    ap cm_stmts_of is ∙ stmts_of-more list x ∙ ap₂ (λ s t. m.Then s t) e f
    ∙ ap (λ ss. statements_after program ss earlier) (sym (rows.stmts_onto-more (take i xs) (get_or xs i d) p.NoStmts))
    ∙ ap (λ l. statements_after program (stmts_of l) earlier) (sym (take_more xs i d within))

pub ruleset one_more = (stmts_of-more)

-- ---- first values

-- the bytes of one integer more
pub integers_on : (T : IntegerType) (ns : List SignedNumber) (count i a size bits by : ℕ) (number : Option SignedNumber) (start more all : List (ℕ × ℕ)) → i < count
    → all ≡ start ++ integers_from T ns (count - i) i a → size ≡ bytes T.size → number ≡ slice_get ns i → bits ≡ first_bits T number → more ≡ start ++ bytes_from size a bits → by ≡ size
    → all ≡ more ++ integers_from T ns (count - (i + 1)) (i + 1) ((a + by) % 65536)
integers_on T ns count i a size bits by number start more all lt is size_is number_is bits_is more_is by_is =
    let e : count - i ≡ suc (count - (i + 1)) = omega arith in
    let one = bytes_from (bytes T.size) a (first_bits T (slice_get ns i)) in
    let rest : ℕ → List (ℕ × ℕ) = λ k. integers_from T ns (count - (i + 1)) (i + 1) ((a + k) % 65536) in
    is ∙ ap (λ k. start ++ integers_from T ns k i a) e ∙ sym (append_assoc start one (rest (bytes T.size)))
    ∙ ap (λ l. l ++ rest (bytes T.size)) (sym (more_is ∙ ap₂ (λ k z. start ++ bytes_from k a z) size_is (bits_is ∙ ap (first_bits T) number_is)))
    ∙ ap (λ k. more ++ rest k) (sym (by_is ∙ size_is))
