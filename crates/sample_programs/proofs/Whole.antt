-- Each text of the generator is sound, and its program has room.
use Rattle.std.proofs.Common.{ℕ, zero, suc, ◌+◌, ◌*◌, ◌/◌, ◌%◌, ◌<◌, ◌≤◌, List, [], length, map, refl, sym, ap, subst, ◌∙◌, arith}
use Rattle.clight_source.specs.Trees as tree
use Rattle.clight_tokens.specs.SourceTrees.{IsSourceTree}
use Rattle.clight_tokens.specs.Symbols.{terminal_of}
use Rattle.cerco_pipeline.specs.Programs.{HasRoomByText}
use Rattle.sample_texts.specs.declared.draws.Numbers.{Numbers}
use Rattle.sample_texts.specs.Draws.{next, drawn, numbers_at, start_at, state_at}
use Rattle.sample_programs.specs.Laws.{TextsHaveRoom}
use Rattle.sample_programs.proofs.Pieces.{tokens_from}
use Rattle.sample_programs.proofs.Trees.{all_names, all_pieces, program, Places}
use Rattle.sample_programs.proofs.Typing.{AreWithin}
use Rattle.sample_programs.proofs.SourceTexts.{text, text-all, tokens-are}
use Rattle.sample_programs.proofs.Sources.{places_of, source_items, items-spelled, items-obey, items-shallow}
use Rattle.sample_programs.proofs.TokenNames.{names-are}
use Rattle.sample_programs.proofs.Naming.{names-right, main-is}
use Rattle.sample_programs.proofs.Programs.{typed}
use Rattle.sample_programs.proofs.Labels.{numbered, unlabelled, labelled_right}
use Rattle.sample_programs.proofs.CallPaths.{calls_of}
use Rattle.sample_programs.proofs.Rooms.{starts_of, laid-out, need-fits}
use Rattle.sample_programs.proofs.Bounds.{code_fits}

-- ---- what is drawn

drawn-small : (s : ℕ) → drawn (next s) ≤ 65535
drawn-small s = by (1664525 * s + 1013904223)
  where
    by : (x : ℕ) → (x % 4294967296) / 65536 ≤ 65535
    by x = omega arith

turns-small : (d : ℕ) → 1 + d % 20 ≤ 20
turns-small d = omega arith

numbers-within : (seed f : ℕ) → AreWithin (numbers_at seed f)
numbers-within seed f =
    let s : ℕ = state_at seed f in
    record { turns = turns-small (drawn (next s)); added = drawn-small (next s); mixed = drawn-small (next (next s)); mixed_odd = drawn-small (next (next (next s))) }

-- ---- a text

abbrev whole_places : (ℕ → Numbers) → (start k : ℕ) → Places
whole_places numbers start k = places_of numbers start (suc k) (length (text (all_pieces numbers start (suc k))))

abbrev whole_tree : (ℕ → Numbers) → (start k : ℕ) → tree.Program
whole_tree numbers start k = record {
  names = all_names (suc k);
  items = source_items unlabelled (whole_places numbers start k) numbers start (suc k);
  span = (whole_places numbers start k).whole;
}

source-tree : (numbers : ℕ → Numbers) (start k : ℕ) → ((f : ℕ) → f < suc k → AreWithin (numbers f)) → start ≤ 65535 → k ≤ 63 → IsSourceTree (text (all_pieces numbers start (suc k))) (whole_tree numbers start k)
source-tree numbers start k within small few =
    let names = names-are numbers start k within small few in
    record {
      list = tokens_from 0 (all_pieces numbers start (suc k));
      tokens = tokens-are numbers start (suc k) within small (omega arith);
      tree = record {
        names = sym names;
        spelled = (
          items-obey unlabelled (whole_places numbers start k) numbers start (suc k),
          items-spelled unlabelled numbers start k (length (text (all_pieces numbers start (suc k)))) few within small
              ∙ ap (λ (ns : List (List ℕ)). map (terminal_of ns) (tokens_from 0 (all_pieces numbers start (suc k)))) (sym names),
        );
        shallow = items-shallow unlabelled (whole_places numbers start k) numbers start (suc k);
        whole = refl;
      };
    }

pieces-have-room : (numbers : ℕ → Numbers) (start k : ℕ) → ((f : ℕ) → f < suc k → AreWithin (numbers f)) → start ≤ 65535 → k ≤ 63 → HasRoomByText (text (all_pieces numbers start (suc k)))
pieces-have-room numbers start k within small few =
    let p : Places = whole_places numbers start k in
    let n : ℕ = suc k in
    record {
      program = program (numbered n) p numbers start n (starts_of n) (calls_of n);
      is_program = record {
        tree = whole_tree numbers start k;
        is_tree = source-tree numbers start k within small few;
        laid_out = program unlabelled p numbers start n (starts_of n) (calls_of n);
        sound = record {
          names = names-right unlabelled p numbers start k few;
          typed = program unlabelled p numbers start n [] [];
          typing = typed unlabelled p numbers start n (main-is k) small within;
          layout = laid-out unlabelled p numbers start n (omega arith) (omega arith);
        };
        labelled = labelled_right p numbers start n (starts_of n) (calls_of n);
      };
      room = record {
        most = 23;
        need = need-fits (numbered n) p numbers start n (omega arith);
        cells = omega arith;
        code = code_fits (numbered n) p numbers start n (starts_of n) (calls_of n) (omega arith);
      };
    }

pub texts-have-room : TextsHaveRoom
texts-have-room seed zero below some few = absurd (omega arith)
texts-have-room seed (suc k) below some few =
    subst HasRoomByText (text-all (numbers_at seed) (start_at seed (suc k)) (suc k))
    (pieces-have-room (numbers_at seed) (start_at seed (suc k)) k (λ f h. numbers-within seed f) (drawn-small (state_at seed (suc k))) (omega arith))
