-- The text of each annotation, as it is put: a literal text, its number, and a literal text.
use Rattle.std.proofs.Common.{◌≡◌, ℕ, List, [], ◌++◌, codes, sym, decimal, ap, ◌∙◌, append_assoc}
use Rattle.cerco_base.specs.declared.events.Label.{Label}
use Rattle.clight_syntax.specs.declared.points.Piece.TheVariants.{Start, After, ArmOpen, ThenClose, BodyClose, CondBoth, CondRepeat}
use Rattle.clight_syntax.specs.Annotations.{Costs, cost_of, around, piece_text}

pub piece_text-start : (costs : Costs) → piece_text costs Start ≡ around (codes "/*@*/unsigned long __cost=") costs.start (codes ";/*@*/")
piece_text-start costs = ap (λ text. codes "/*@*/unsigned long __cost=" ++ text) (append_assoc (decimal costs.start) (codes ";") (codes "/*@*/"))

pub piece_text-after : (costs : Costs) (label : Label) → piece_text costs (After label) ≡ around (codes "/*@*/__cost+=") (cost_of costs label) (codes ";/*@*/")
piece_text-after costs label = ap (λ text. codes "/*@*/__cost+=" ++ text) (append_assoc (decimal (cost_of costs label)) (codes ";") (codes "/*@*/"))

pub piece_text-arm_open : (costs : Costs) (label : Label) → piece_text costs (ArmOpen label) ≡ around (codes "/*@*/{__cost+=") (cost_of costs label) (codes ";/*@*/")
piece_text-arm_open costs label = ap (λ text. codes "/*@*/{__cost+=" ++ text) (append_assoc (decimal (cost_of costs label)) (codes ";") (codes "/*@*/"))

pub piece_text-then_close : (costs : Costs) (label : Label) → piece_text costs (ThenClose label) ≡ around (codes "/*@*/}else{__cost+=") (cost_of costs label) (codes ";}/*@*/")
piece_text-then_close costs label = ap (λ text. codes "/*@*/}else{__cost+=" ++ text) (append_assoc (decimal (cost_of costs label)) (codes ";}") (codes "/*@*/"))

pub piece_text-body_close : (costs : Costs) (label : Label) → piece_text costs (BodyClose label) ≡ around (codes "/*@*/}__cost+=") (cost_of costs label) (codes ";/*@*/")
piece_text-body_close costs label = ap (λ text. codes "/*@*/}__cost+=" ++ text) (append_assoc (decimal (cost_of costs label)) (codes ";") (codes "/*@*/"))

pub piece_text-cond_repeat : (costs : Costs) (label : Label) → piece_text costs (CondRepeat label) ≡ around (codes "/*@*/)?(__cost+=") (cost_of costs label) (codes ",1):0)/*@*/")
piece_text-cond_repeat costs label = ap (λ text. codes "/*@*/)?(__cost+=" ++ text) (append_assoc (decimal (cost_of costs label)) (codes ",1):0)") (codes "/*@*/"))

pub piece_text-cond_both : (costs : Costs) (on_true on_false : Label) → piece_text costs (CondBoth on_true on_false) ≡ around (codes "/*@*/)?(__cost+=") (cost_of costs on_true) (around (codes ",1):(__cost+=") (cost_of costs on_false) (codes ",0))/*@*/"))
piece_text-cond_both costs on_true on_false =
    ap (λ text. codes "/*@*/)?(__cost+=" ++ text) (append_assoc (decimal (cost_of costs on_true)) (around (codes ",1):(__cost+=") (cost_of costs on_false) (codes ",0))")) (codes "/*@*/"))
    ∙ ap (λ text. around (codes "/*@*/)?(__cost+=") (cost_of costs on_true) (codes ",1):(__cost+=" ++ text)) (append_assoc (decimal (cost_of costs on_false)) (codes ",0))") (codes "/*@*/"))

-- two numbers, each between two texts, are put one after the other
around_both : (before middle behind : List ℕ) (one other : ℕ) → around before one (around middle other behind) ≡ around before one middle ++ around [] other behind
around_both before middle behind one other =
    ap (λ text. before ++ text) (sym (append_assoc (decimal one) middle (decimal other ++ behind)))
    ∙ sym (append_assoc before (decimal one ++ middle) (decimal other ++ behind))

pub two_numbers : (on_true on_false : ℕ) → around (codes "/*@*/)?(__cost+=") on_true (around (codes ",1):(__cost+=") on_false (codes ",0))/*@*/")) ≡ around (codes "/*@*/)?(__cost+=") on_true (codes ",1):(__cost+=") ++ around [] on_false (codes ",0))/*@*/")
two_numbers on_true on_false = around_both (codes "/*@*/)?(__cost+=") (codes ",1):(__cost+=") (codes ",0))/*@*/") on_true on_false
