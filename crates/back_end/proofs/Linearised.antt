-- Linear code of a program over virtual registers, from what renaming and linearising promise.
use Rattle.std.proofs.Common.{◌≡◌, ◌≤◌, List, ◌∙◌, subst, arith}
use Rattle.std.specs.Prelude.{Result, Ok, Err, IfOk}
use Rattle.cerco_base.specs.declared.no_memory.NoMemory.{NoMemory}
use Rattle.cerco_traces.specs.Preservation.{Preserves}
use Rattle.cerco_traces.proofs.Simulation.{preserves_trans}
use Rattle.rtl.specs.declared.locations.Vreg.{Vreg}
use Rattle.rtl.specs.declared.locations.Place.{Place}
use Rattle.rtl.specs.declared.linear.LinProgram.{LinProgram as WrittenLin}
use Rattle.rtl.specs.Programs.{Bytes}
use Rattle.rtl.specs.Code.Views.{lin_program_of}
use Rattle.rtl.specs.Items.{LinProgram}
use Rattle.rtl.specs.Graphs.{AreSoundlyLabelled}
use Rattle.rtl.specs.Meaning.{ertl, ltl}
use Rattle.rtl.specs.Linear.{lin}
use Rattle.rtl.specs.WellFormed.{IsLinProgram}
use Rattle.rtl.specs.Lengths.{vreg_length, ltl_length, lin_length}
use Rattle.ltl_alloc.specs.declared.allocation.Allocation.{Allocation}
use Rattle.ltl_alloc.specs.declared.frames.Bases.{Bases}
use Rattle.ltl_alloc.specs.Translation.{ltl_of}
use Rattle.ltl_alloc.specs.Renamed.{KeepsOutline}
use Rattle.lin_gen.specs.Linearised.{IsLinearised}
use Rattle.back_end.specs.Chain.{IsLinearCodeOf}
use Rattle.back_end.proofs.Labels.{kept_labels, lin_labels}

-- what renaming promises of its answer
pub record IsRenamed (program : Bytes Vreg) (allocations : List Allocation) (bases : Bases) (places : Bytes Place) : Type 0 where
  pub is : places ≡ ltl_of program allocations bases.firsts
  pub preserves : Preserves (ertl program) (ltl places)
  pub labelled : AreSoundlyLabelled places.graphs
  pub same : KeepsOutline program places
  pub length : ltl_length places ≤ vreg_length program

-- what linearising promises of its answer
pub record IsLinear (places : Bytes Place) (code : LinProgram) : Type 0 where
  pub is : IsLinearised places code
  pub preserves : Preserves (ltl places) (lin code)
  pub formed : IsLinProgram code
  pub length : lin_length code ≤ ltl_length places

pub linear_code_of : (program : Bytes Vreg) (allocations : List Allocation) (bases : Bases) (places : Bytes Place) (code : LinProgram) → IsRenamed program allocations bases places → IsLinear places code → IsLinearCodeOf program allocations bases code
linear_code_of program allocations bases places code r l =
    record {
      is = subst (λ z. IsLinearised z code) r.is l.is;
      preserves = preserves_trans r.preserves l.preserves;
      formed = l.formed;
      labelled = record { graphs = places.graphs; orderings = l.is.lins; labelled = r.labelled };
      labels = lin_labels places.graphs code.lins l.is.lins ∙ kept_labels program.graphs places.graphs r.same.labels;
      length = omega (arith, l.length, r.length);
    }

-- the clauses of a result together
pub linear_result :
    (places : Bytes Place) (result : Result WrittenLin NoMemory)
    → IfOk result (λ x. IsLinearised places (lin_program_of x)) → IfOk result (λ x. Preserves (ltl places) (lin (lin_program_of x)))
    → IfOk result (λ x. IsLinProgram (lin_program_of x)) → IfOk result (λ x. lin_length (lin_program_of x) ≤ ltl_length places) → IfOk result (λ x. IsLinear places (lin_program_of x))
linear_result places (Ok x) i p f n = record { is = i; preserves = p; formed = f; length = n }
linear_result places (Err x) i p f n = tt
