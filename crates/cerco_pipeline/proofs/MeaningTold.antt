-- What is put of a source's meaning, with the costs of what it was compiled to.
use Rattle.std.proofs.Common.{◌≡◌, ℕ, List, Result, refl, subst}
use Rattle.cerco_base.specs.declared.outside.faults.IoFault.{IoFault}
use Rattle.cerco_base.specs.Outside.IoStates.{SinkState}
use Rattle.cerco_base.specs.Outside.IoCalls.{PutsText}
use Rattle.clight_syntax.specs.Annotations.{Costs}
use Rattle.clight_syntax.specs.declared.typed.Labelled.{Labelled}
use Rattle.clight_syntax.specs.Code.TypedViews.{labelled_of}
use Rattle.clight_meaning.specs.Meaning.{source as meaning}
use Rattle.meaning_text.specs.Text.{meaning_text}
use Rattle.cerco_pipeline.specs.Compiled.{IsCompiled}
use Rattle.cerco_pipeline.specs.Told.{IsMeaningOf, PutsMeaning}
use Rattle.cerco_pipeline.specs.declared.compiled.Compiled.{Compiled}

abbrev with_costs : ℕ → List ℕ → Costs
with_costs start labels = record { start = start; labels = labels }

is_meaning : (text script : List ℕ) (limit : ℕ) (c : Compiled) → IsCompiled text c → IsMeaningOf text script limit (meaning_text (with_costs c.start c.costs.items) (meaning (labelled_of c.labelled.value) script limit))
is_meaning text script limit c is =
    record {
      program = labelled_of c.labelled.value;
      is_program = is.program;
      code = c.assembled.object.code;
      labels = c.assembled.object.labels;
      costs = with_costs c.start c.costs.items;
      headline = is.headline;
      costs_are = is.costs;
      chain = record {
        source = is.assembled.source;
        values = c.assembled;
        chain = is.assembled.chain;
        preserves = is.assembled.preserves;
        code_is = refl;
        labels_are = refl;
      };
      told = refl;
    }

pub puts_meaning : (text script : List ℕ) (limit : ℕ) (c : Compiled) (x : Labelled) (start : ℕ) (labels : List ℕ) (s t : SinkState) (put : Result (Unit {0}) IoFault) → IsCompiled text c → x ≡ c.labelled.value → start ≡ c.start → labels ≡ c.costs.items → PutsText s t (meaning_text (record { start = start; labels = labels }) (meaning (labelled_of x) script limit)) put → PutsMeaning text script limit s t put
puts_meaning text script limit c x start labels s t put is same_program same_start same_labels puts =
    let X : Labelled → Type 0 = λ y. PutsText s t (meaning_text (with_costs start labels) (meaning (labelled_of y) script limit)) put in
    let S : ℕ → Type 0 = λ n. PutsText s t (meaning_text (with_costs n labels) (meaning (labelled_of c.labelled.value) script limit)) put in
    let L : List ℕ → Type 0 = λ l. PutsText s t (meaning_text (with_costs c.start l) (meaning (labelled_of c.labelled.value) script limit)) put in
    record {
      text = meaning_text (with_costs c.start c.costs.items) (meaning (labelled_of c.labelled.value) script limit);
      is_meaning = is_meaning text script limit c is;
      puts = subst L same_labels (subst S same_start (subst X same_program puts));
    }
