use Rattle.std.proofs.Common.{ℕ, List, sym, ap, subst, ◌∙◌}
use Rattle.cerco_base.specs.Outside.IoCalls.{PutsText}
use Rattle.clight_syntax.specs.Annotations.{Costs, piece_text}
use Rattle.annotate.proofs.PieceTexts.{piece_text-start, piece_text-after, piece_text-arm_open, piece_text-then_close, piece_text-body_close, piece_text-cond_repeat, piece_text-cond_both}
use Rattle.annotate.proofs.put_piece.Goals as goal

pub returns-in-Start : goal.returns-in-Start
returns-in-Start g c =
    let costs : Costs = record { start = c.args.start; labels = c.args.costs.now } in
    let P : List ℕ → Type 0 = λ text. PutsText (g.O.Sink.state c.args.out.now) (g.O.Sink.state c.put_number.new.out) text c.put_number.result in
    subst P (sym (ap (piece_text costs) c.in-Start.is ∙ piece_text-start costs)) c.put_number.ensures

pub returns-in-After : goal.returns-in-After
returns-in-After g c =
    let costs : Costs = record { start = c.args.start; labels = c.args.costs.now } in
    let P : List ℕ → Type 0 = λ text. PutsText (g.O.Sink.state c.args.out.now) (g.O.Sink.state c.put_cost.new.out) text c.put_cost.result in
    subst P (sym (ap (piece_text costs) c.in-After.is ∙ piece_text-after costs c.in-After.label)) c.put_cost.ensures

pub returns-in-ArmOpen : goal.returns-in-ArmOpen
returns-in-ArmOpen g c =
    let costs : Costs = record { start = c.args.start; labels = c.args.costs.now } in
    let P : List ℕ → Type 0 = λ text. PutsText (g.O.Sink.state c.args.out.now) (g.O.Sink.state c.put_cost-in-ArmOpen.new.out) text c.put_cost-in-ArmOpen.result in
    subst P (sym (ap (piece_text costs) c.in-ArmOpen.is ∙ piece_text-arm_open costs c.in-ArmOpen.label)) c.put_cost-in-ArmOpen.ensures

pub returns-in-ThenClose : goal.returns-in-ThenClose
returns-in-ThenClose g c =
    let costs : Costs = record { start = c.args.start; labels = c.args.costs.now } in
    let P : List ℕ → Type 0 = λ text. PutsText (g.O.Sink.state c.args.out.now) (g.O.Sink.state c.put_cost-in-ThenClose.new.out) text c.put_cost-in-ThenClose.result in
    subst P (sym (ap (piece_text costs) c.in-ThenClose.is ∙ piece_text-then_close costs c.in-ThenClose.label)) c.put_cost-in-ThenClose.ensures

pub returns-in-BodyClose : goal.returns-in-BodyClose
returns-in-BodyClose g c =
    let costs : Costs = record { start = c.args.start; labels = c.args.costs.now } in
    let P : List ℕ → Type 0 = λ text. PutsText (g.O.Sink.state c.args.out.now) (g.O.Sink.state c.put_cost-in-BodyClose.new.out) text c.put_cost-in-BodyClose.result in
    subst P (sym (ap (piece_text costs) c.in-BodyClose.is ∙ piece_text-body_close costs c.in-BodyClose.label)) c.put_cost-in-BodyClose.ensures

pub returns-in-CondRepeat : goal.returns-in-CondRepeat
returns-in-CondRepeat g c =
    let costs : Costs = record { start = c.args.start; labels = c.args.costs.now } in
    let P : List ℕ → Type 0 = λ text. PutsText (g.O.Sink.state c.args.out.now) (g.O.Sink.state c.put_cost-in-CondRepeat.new.out) text c.put_cost-in-CondRepeat.result in
    subst P (sym (ap (piece_text costs) c.in-CondRepeat.is ∙ piece_text-cond_repeat costs c.in-CondRepeat.label)) c.put_cost-in-CondRepeat.ensures

pub returns-in-CondBoth : goal.returns-in-CondBoth
returns-in-CondBoth g c =
    let costs : Costs = record { start = c.args.start; labels = c.args.costs.now } in
    let P : List ℕ → Type 0 = λ text. PutsText (g.O.Sink.state c.args.out.now) (g.O.Sink.state c.put_both.new.out) text c.put_both.result in
    subst P (sym (ap (piece_text costs) c.in-CondBoth.is ∙ piece_text-cond_both costs c.in-CondBoth.on_true c.in-CondBoth.on_false)) c.put_both.ensures

pub returns-in-CondOpen : goal.returns-in-CondOpen
returns-in-CondOpen g c =
    let costs : Costs = record { start = c.args.start; labels = c.args.costs.now } in
    let P : List ℕ → Type 0 = λ text. PutsText (g.O.Sink.state c.args.out.now) (g.O.Sink.state c.put_all-in-CondOpen.new.out) text c.put_all-in-CondOpen.result in
    subst P (sym (ap (piece_text costs) c.in-CondOpen.is)) c.put_all-in-CondOpen.ensures
