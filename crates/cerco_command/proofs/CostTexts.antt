-- Costs that are told one after the other, and what they mean for the texts of an object.
use Rattle.std.proofs.Common.{◌≡◌, ℕ, ◌+◌, ◌<◌, ◌≤◌, List, ◌++◌, Bool, length, drop, get_or, Result, Ok, Err, refl, sym, ap, subst, ◌∙◌, append_assoc, append-nil, inl, inr, ◌⊎◌}
use Rattle.std.specs.Prelude.{IfOk}
use Rattle.std.proofs.lemmas.List.{drop_more, drop_all}
use Rattle.cerco_base.specs.Outside.InMemory.{sound_sink_state}
use Rattle.cerco_base.specs.declared.outside.faults.IoFault.{IoFault}
use Rattle.block_costs.specs.declared.faults.CostFault.{CostFault}
use Rattle.block_costs.specs.Ways.{cost, start_cost}
use Rattle.cerco_command.specs.Costs.{Told, after_text, told, labels_told, costs_told, Prints, PrintsCosts, ObjectTexts, with_names, CostsMeansFor}
use Rattle.cerco_command.specs.Inputs.{NoneTooLong, HasNoObject, AreObject}
use Rattle.cerco_command.specs.Messages.{start_name, label_name, cost_line, uncosted_line}
use Rattle.cerco_command.specs.Words.{ObjectFiles}
use Rattle.cerco_command.specs.declared.costs.Printed.{Printed}
use Rattle.cerco_command.specs.declared.status.Status.{Status}
use Rattle.cerco_command.specs.declared.status.Status.TheVariants.{Done, BadInput, Uncosted, NoMemory}

after_twice : (a b : List ℕ) (t : Told) → after_text a (after_text b t) ≡ after_text (a ++ b) t
after_twice a b (Ok lines) = ap Ok (sym (append_assoc a b lines))
after_twice a b (Err line) = refl

-- all lines are printed
pub prints_all : (t : Told) (text : List ℕ) → t ≡ Ok text → Prints t Done text
prints_all t text e = subst (λ (u : Told). Prints u Done text) (sym e) refl

-- the line of a fault is printed
pub prints_fault : (t : Told) (line text : List ℕ) (status : Status) → t ≡ Err line → status ≡ Uncosted → text ≡ line → Prints t status text
prints_fault t line text status e s l =
    let P : Status → Type 0 = λ st. Prints (Err line) st text in
    subst (λ (u : Told). Prints u status text) (sym e) (subst P (sym s) l)

pub fault_printed : (t : Told) (line : List ℕ) (r : Result Printed IoFault) → t ≡ Err line
    → IfOk r (λ printed. printed.status ≡ Uncosted) → IfOk r (λ printed. (sound_sink_state printed.text).bytes ≡ line)
    → IfOk r (λ printed. Prints t printed.status (sound_sink_state printed.text).bytes)
fault_printed t line (Ok printed) e s l = prints_fault t line (sound_sink_state printed.text).bytes printed.status e s l
fault_printed t line (Err fault) e s l = tt

-- what is told is also told by other words
pub printed_as : (t u : Told) (r : Result Printed IoFault) → t ≡ u
    → IfOk r (λ printed. Prints u printed.status (sound_sink_state printed.text).bytes) → IfOk r (λ printed. Prints t printed.status (sound_sink_state printed.text).bytes)
printed_as t u r e p = subst (λ (v : Told). IfOk r (λ printed. Prints v printed.status (sound_sink_state printed.text).bytes)) (sym e) p

module _ (code : List ℕ) (marks : List Bool) (labels : List ℕ) where
  -- what is to be told from the label with this number on
  abbrev pub left : ℕ → Told
  left number = labels_told code marks number (drop number labels)

  next : (number d : ℕ) → number < length labels → left number ≡ told (label_name number) (cost code marks (get_or labels number d)) (left (number + 1))
  next number d more = ap (labels_told code marks number) (drop_more labels number d more)

  -- the cost of a label is told
  pub told_on : (whole : Told) (number d cycles : ℕ) (text : List ℕ) → number < length labels → cost code marks (get_or labels number d) ≡ Ok cycles → whole ≡ after_text text (left number) → whole ≡ after_text (text ++ cost_line (label_name number) cycles) (left (number + 1))
  told_on whole number d cycles text more is so_far =
      so_far
      ∙ (ap (after_text text) (next number d more ∙ ap (λ r. told (label_name number) r (left (number + 1))) is)
      ∙ after_twice text (cost_line (label_name number) cycles) (left (number + 1)))

  -- it is a fault
  pub told_fault : (whole : Told) (number d : ℕ) (text : List ℕ) (fault : CostFault) → number < length labels → cost code marks (get_or labels number d) ≡ Err fault → whole ≡ after_text text (left number) → whole ≡ Err (uncosted_line (label_name number) fault)
  told_fault whole number d text fault more is so_far =
      so_far ∙ ap (after_text text) (next number d more ∙ ap (λ r. told (label_name number) r (left (number + 1))) is)

  -- all costs are told
  pub told_all : (whole : Told) (number : ℕ) (text : List ℕ) → length labels ≤ number → whole ≡ after_text text (left number) → whole ≡ Ok text
  told_all whole number text past so_far =
      so_far
      ∙ (ap (λ rest. after_text text (labels_told code marks number rest)) (drop_all number labels past)
      ∙ ap Ok (append-nil text))

  -- the start has a cost, or none
  pub start_told : (cycles : ℕ) → start_cost code marks ≡ Ok cycles → costs_told code marks labels ≡ after_text (cost_line start_name cycles) (labels_told code marks 0 labels)
  start_told cycles is = ap (λ r. told start_name r (labels_told code marks 0 labels)) is

  pub start_fault : (fault : CostFault) → start_cost code marks ≡ Err fault → costs_told code marks labels ≡ Err (uncosted_line start_name fault)
  start_fault fault is = ap (λ r. told start_name r (labels_told code marks 0 labels)) is

-- ---- what is meant for the texts of an object

-- no other status is meant
two_ends : (t : Told) (status : Status) (text : List ℕ) → Prints t status text → (status ≡ Done) ⊎ (status ≡ Uncosted)
two_ends (Ok lines) Done text p = inl refl
two_ends (Err line) Uncosted text p = inr refl
two_ends (Ok lines) status text p = absurd p
two_ends (Err line) status text p = absurd p

-- costs are printed
pub costs_meant : (names : ObjectFiles) (texts : ObjectTexts) (code labels : List ℕ) (status : Status) (text : List ℕ) → NoneTooLong (with_names names texts) → AreObject texts.hex texts.map code labels → PrintsCosts code labels status text → CostsMeansFor names texts status text
costs_meant names texts code labels status text short object costs = by (two_ends (costs_told code costs.marks labels) status text costs.prints)
  where
    Means : Status → Type 0
    Means s = PrintsCosts code labels s text → CostsMeansFor names texts s text

    done : Means Done
    done c = (short, record { code = code; labels = labels; object_read = object; costs = c })

    uncosted : Means Uncosted
    uncosted c = (short, record { code = code; labels = labels; object_read = object; costs = c })

    by : (status ≡ Done) ⊎ (status ≡ Uncosted) → CostsMeansFor names texts status text
    by (inl e) = subst Means (sym e) done costs
    by (inr e) = subst Means (sym e) uncosted costs

-- there is no object
pub no_object_meant : (names : ObjectFiles) (texts : ObjectTexts) (status : Status) (line : List ℕ) → NoneTooLong (with_names names texts) → HasNoObject texts.hex texts.map status line → CostsMeansFor names texts status line
no_object_meant names texts BadInput line short c = inr (short, c)
no_object_meant names texts NoMemory line short c = c
no_object_meant names texts status line short c = absurd c
