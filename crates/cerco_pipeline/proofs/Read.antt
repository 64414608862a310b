-- What the stages of the front end say of a text.
use Rattle.std.proofs.Common.{◌≡◌, inl, inr, ℕ, List, length, ap, subst, ◌∙◌}
use Rattle.cerco_base.specs.declared.reasons.Fault.TheVariants.{Refused}
use Rattle.cerco_base.specs.declared.reasons.Reason.{Reason}
use Rattle.clight_source.specs.Trees.{Program}
use Rattle.clight_tokens.specs.SourceTrees.{IsTreeOf, IsSourceTree}
use Rattle.clight_tokens.specs.Tokens.{Tokenised, HasTokens}
use Rattle.clight_syntax.specs.Annotations.{AreInOrder, BeginWithStart}
use Rattle.clight_syntax.specs.Labelling.{IsLabelled, points_of}
use Rattle.clight_syntax.specs.TypedSpans.{AreAscending, code_spans}
use Rattle.clight_syntax.specs.TypedTrees.{TypedProgram}
use Rattle.clight_syntax.specs.declared.typed.Labelled.{Labelled}
use Rattle.clight_syntax.specs.Code.TypedViews.{labelled_of}
use Rattle.label_places.proofs.Places.{places_ascend}
use Rattle.clight_reader.specs.Reasons.{HasNoTree}
use Rattle.clight_check.specs.Soundness.{IsSound, IsUnsound}
use Rattle.cerco_pipeline.specs.Programs.{HasFirstReason}
use Rattle.cerco_pipeline.specs.Compiled.{IsRead}

module _ (text : List ℕ) (t : Tokenised) (tokens : HasTokens text t.tokens) (size : t.length ≡ length text) where
  pub source_tree : (tree : Program) → IsTreeOf t tree → IsSourceTree text tree
  source_tree tree is = record {
    list = t.tokens;
    tokens = tokens;
    tree = record { names = is.names; spelled = is.spelled; shallow = is.shallow; whole = is.whole ∙ ap (λ n. record { from = 0; to = n }) size };
  }

  pub no_tree : (reason : Reason) → HasNoTree t (Refused reason) → HasFirstReason text reason
  no_tree reason has = inl (inr (t.tokens, tokens, subst (λ n. HasNoTree (record { tokens = t.tokens; length = n }) (Refused reason)) size has))

pub unsound : (text : List ℕ) (tree : Program) (reason : Reason) → IsSourceTree text tree → IsUnsound tree reason → HasFirstReason text reason
unsound text tree reason is has = inr (tree, is, has)

pub is_read :
    (text : List ℕ) (tree : Program) (typed : TypedProgram (Unit {0})) (x : Labelled) → IsSourceTree text tree → IsSound tree typed
    → IsLabelled typed (labelled_of x) → x.points ≡ points_of (labelled_of x)
    → ((size : ℕ) → AreAscending 0 (code_spans typed) size → AreInOrder size x.points) → BeginWithStart x.points → IsRead text x
is_read text tree typed x is_tree sound labelled points ordered begins = record {
  program = record { tree = tree; is_tree = is_tree; laid_out = typed; sound = sound; labelled = labelled };
  points = points;
  in_order = ordered (length text) (places_ascend text tree typed is_tree sound);
  begins = begins;
  no_marker = is_tree.tokens.unmarked;
}
