-- The laws of sound programs.
use Rattle.std.proofs.Common.{◌≡◌, ◌⊎◌, inl, inr, ℕ, Option, Some, None, Ok, Err, refl, sym, ap, subst, ◌∙◌}
use Rattle.cerco_base.specs.declared.reasons.NameKind.{NameKind}
use Rattle.cerco_base.specs.declared.reasons.TypeKind.{TypeKind}
use Rattle.cerco_base.specs.declared.reasons.Reason.{Reason}
use Rattle.cerco_base.specs.declared.reasons.Reason.TheVariants as r
use Rattle.clight_source.specs.Trees.{Program}
use Rattle.clight_syntax.specs.TypedTrees.{TypedProgram}
use Rattle.clight_names.specs.NameFaults.{NameFault, first_name_fault, name_fault}
use Rattle.clight_types.specs.TypedExpressions.{Checked, fault}
use Rattle.clight_typing.specs.TypedPrograms.{typed_program}
use Rattle.clight_layout.specs.Layout.{IsLayout}
use Rattle.clight_layout.specs.Reasons.{IsReason}
use Rattle.clight_check.specs.Soundness.{IsSound, IsUnsound, HasNoLayout}
use Rattle.clight_check.specs.Laws.{NotBoth, ReasonIsUnique, TreeIsUnique}
use Rattle.clight_check.proofs.UniqueLayouts.{one_layout, one_reason, laid_out_or_refused}

-- the reason is a wrong name
record Named (p : Program) (reason : Reason) : Type 0 where
  at : ℕ
  kind : NameKind
  is : reason ≡ r.Name at kind
  wrong : first_name_fault p ≡ Some (name_fault at kind)

-- the reason is a part without a type
record Mistyped (p : Program) (reason : Reason) : Type 0 where
  at : ℕ
  kind : TypeKind
  is : reason ≡ r.Typing at kind
  names : first_name_fault p ≡ None
  wrong : typed_program p ≡ fault at kind

unsound_cases : (p : Program) (reason : Reason) → IsUnsound p reason → Named p reason ⊎ (Mistyped p reason ⊎ HasNoLayout p reason)
unsound_cases p (r.Name at kind) h = inl (record { at = at; kind = kind; is = refl; wrong = h })
unsound_cases p (r.Typing at kind) h = inr (inl (record { at = at; kind = kind; is = refl; names = h.0; wrong = h.1 }))
unsound_cases p (r.Recursion at) h = inr (inr h)
unsound_cases p (r.StackFull depth) h = inr (inr h)
unsound_cases p (r.DataFull total) h = inr (inr h)
unsound_cases p reason h = absurd h

-- ---- names and types have one answer

no_fault : (x : Option NameFault) (f : NameFault) → x ≡ None → x ≡ Some f → ⊥
no_fault x f e o = cc

-- the reason that a wrong name is, and any other where there is none
name_reason : Option NameFault → Reason
name_reason (Some f) = r.Name f.at f.kind
name_reason None = r.TooLong

same_name : (x : Option NameFault) (i j : ℕ) (k l : NameKind) → x ≡ Some (name_fault i k) → x ≡ Some (name_fault j l) → r.Name i k ≡ r.Name j l
unfolding name_reason
same_name x i j k l e o = ap name_reason (sym e ∙ o)

no_type : {A : Type 0} (x : Checked A) (t : A) (at : ℕ) (kind : TypeKind) → x ≡ Ok t → x ≡ fault at kind → ⊥
no_type x t at kind e o = cc

type_reason : {A : Type 0} → Checked A → Reason
type_reason (Err f) = r.Typing f.at f.kind
type_reason (Ok x) = r.TooLong

same_type : {A : Type 0} (x : Checked A) (i j : ℕ) (k l : TypeKind) → x ≡ fault i k → x ≡ fault j l → r.Typing i k ≡ r.Typing j l
unfolding type_reason
same_type x i j k l e o = ap type_reason (sym e ∙ o)

same_tree : {A : Type 0} (x : Checked A) (t u : A) → x ≡ Ok t → x ≡ Ok u → t ≡ u
same_tree x t u e o = cc

-- ---- the laws

pub not_both : NotBoth
not_both p t reason sound unsound =
    elim (unsound_cases p reason unsound) [
      | inl named ↦ no_fault (first_name_fault p) _ sound.names named.wrong
      | inr (inl mistyped) ↦ no_type (typed_program p) sound.typed mistyped.at mistyped.kind sound.typing mistyped.wrong
      | inr (inr h) ↦ laid_out_or_refused h.typed t reason (subst (λ x. IsLayout x t) (same_tree (typed_program p) sound.typed h.typed sound.typing h.typing) sound.layout) h.reason_is
    ]

same_layout_reason : (p : Program) (a b : Reason) → HasNoLayout p a → HasNoLayout p b → a ≡ b
same_layout_reason p a b x y = one_reason y.typed a b (subst (λ t. IsReason t a) (same_tree (typed_program p) x.typed y.typed x.typing y.typing) x.reason_is) y.reason_is

named_first : (p : Program) (a b : Reason) → Named p a → IsUnsound p b → a ≡ b
named_first p a b x unsound =
    elim (unsound_cases p b unsound) [
      | inl y ↦ x.is ∙ same_name (first_name_fault p) x.at y.at x.kind y.kind x.wrong y.wrong ∙ sym y.is
      | inr (inl y) ↦ absurd (no_fault (first_name_fault p) _ y.names x.wrong)
      | inr (inr y) ↦ absurd (no_fault (first_name_fault p) _ y.names x.wrong)
    ]

mistyped_first : (p : Program) (a b : Reason) → Mistyped p a → IsUnsound p b → a ≡ b
mistyped_first p a b x unsound =
    elim (unsound_cases p b unsound) [
      | inl y ↦ absurd (no_fault (first_name_fault p) _ x.names y.wrong)
      | inr (inl y) ↦ x.is ∙ same_type (typed_program p) x.at y.at x.kind y.kind x.wrong y.wrong ∙ sym y.is
      | inr (inr y) ↦ absurd (no_type (typed_program p) y.typed x.at x.kind y.typing x.wrong)
    ]

no_layout_first : (p : Program) (a b : Reason) → HasNoLayout p a → IsUnsound p b → a ≡ b
no_layout_first p a b x unsound =
    elim (unsound_cases p b unsound) [
      | inl y ↦ absurd (no_fault (first_name_fault p) _ x.names y.wrong)
      | inr (inl y) ↦ absurd (no_type (typed_program p) x.typed y.at y.kind x.typing y.wrong)
      | inr (inr y) ↦ same_layout_reason p a b x y
    ]

pub reason_is_unique : ReasonIsUnique
reason_is_unique p a b x y =
    elim (unsound_cases p a x) [
      | inl named ↦ named_first p a b named y
      | inr (inl mistyped) ↦ mistyped_first p a b mistyped y
      | inr (inr h) ↦ no_layout_first p a b h y
    ]

pub tree_is_unique : TreeIsUnique
tree_is_unique p t u x y = one_layout y.typed t u (subst (λ q. IsLayout q t) (same_tree (typed_program p) x.typed y.typed x.typing y.typing) x.layout) y.layout
