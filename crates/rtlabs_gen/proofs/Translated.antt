-- Statements of a `Vec` are added from the last to the first.
use Rattle.std.proofs.Common.{◌≡◌, ℕ, ◌+◌, ◌-◌, ◌<◌, List, Vec, Global, length, take, get_or, sym, ap, ap₂, ◌∙◌, arith}
use Rattle.std.proofs.lemmas.List.{take_more}
use Rattle.cerco_middle.specs.declared.rtlabs.RtNode.{RtNode}
use Rattle.cerco_middle.specs.declared.cminor.CmStmt.{CmStmt}
use Rattle.cerco_middle.specs.declared.cminor.CmStmt.TheVariants as s
use Rattle.cerco_middle.specs.Cminor.Trees as p
use Rattle.cerco_middle.specs.Code.Views.{stmt_of, stmts_of}
use Rattle.cerco_middle.proofs.CminorRows.{seq_is, stmts_onto-more}
use Rattle.rtlabs_gen.specs.declared.exits.Exits.{Exits}
use Rattle.rtlabs_gen.specs.Translation.{Part, add_stmt, add_stmts}

pub sequence_is : (all : Vec CmStmt Global) (xs : List CmStmt) (x : CmStmt) → xs ≡ all.items → x ≡ s.Seq all → p.Seq (stmts_of xs) ≡ stmt_of x
sequence_is all xs x items is = ap (λ ys. p.Seq (stmts_of ys)) items ∙ sym (ap stmt_of is ∙ seq_is all)

pub statements_on : (fs : List p.CmFunction) (ns ms : List RtNode) (xs : List CmStmt) (i entry next : ℕ) (exits : Exits) (x : CmStmt) (whole : Part) → i < length xs
    → x ≡ get_or xs (length xs - 1 - i) x → ms ≡ (add_stmt fs ns (stmt_of x) entry exits).nodes → next ≡ (add_stmt fs ns (stmt_of x) entry exits).entry
    → add_stmts fs ns (stmts_of (take (length xs - i) xs)) entry exits ≡ whole → add_stmts fs ms (stmts_of (take (length xs - (i + 1)) xs)) next exits ≡ whole
statements_on fs ns ms xs i entry next exits x whole within is nodes goes invariant =
    let m : ℕ = length xs - (i + 1) in
    let more : length xs - i ≡ m + 1 = omega arith in
    let same : length xs - 1 - i ≡ m = omega arith in
    let below : m < length xs = omega arith in
    let one : List CmStmt → Part = λ ys. add_stmts fs ns (stmts_of ys) entry exits in
    ap₂ (λ ks k. add_stmts fs ks (stmts_of (take m xs)) k exits) nodes goes
    ∙ ap (λ y. add_stmts fs ns (p.Then (stmts_of (take m xs)) (stmt_of y)) entry exits) (is ∙ ap (λ k. get_or xs k x) same)
    ∙ ap (λ ys. add_stmts fs ns ys entry exits) (sym (stmts_onto-more (take m xs) (get_or xs m x) p.NoStmts))
    ∙ ap one (sym (take_more xs m x below))
    ∙ ap (λ k. one (take k xs)) (sym more)
    ∙ invariant
