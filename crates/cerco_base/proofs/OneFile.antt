-- The output over one file.
use Rattle.std.proofs.Common.{◌≡◌, ℕ, List, [], ◌++◌, take, Bool, true, false, Option, Some, None, is_some, unwrap_or, bytes_eq, ◌&&◌, cond, Result, Ok, Err, IsTrue, refl, ap}
use Rattle.cerco_base.specs.Outside.IoStates.{FilesState, bytes_at, file_sink_state}
use Rattle.cerco_base.specs.Outside.IoCalls.{AppendsSome, PutsSome}
use Rattle.cerco_base.specs.declared.outside.faults.IoFault.{IoFault}

not_both : IsTrue false → ⊥
not_both h = cc

pub both : (a b : Bool) → IsTrue (a && b) → IsTrue a × IsTrue b
both true true h = (refl, refl)
both true false h = absurd (not_both h)
both false b h = absurd (not_both h)

there : (t : FilesState) (name bytes : List ℕ) → IsTrue t.known → t.file name ≡ Some bytes → IsTrue (t.known && is_some (t.file name))
there t name bytes h e = rw (h, e) refl

still : (s t : FilesState) (name : List ℕ) → IsTrue t.known → t.file name ≡ s.file name → IsTrue (is_some (s.file name)) → IsTrue (t.known && is_some (t.file name))
still s t name h e i = rw (h, e) i

hidden : (b : Bool) (x y : Option (List ℕ)) → (b ≡ false → x ≡ y) → cond b None x ≡ cond b None y
hidden true x y f = refl
hidden false x y f = f refl

pub over_file : (s t : FilesState) (name bytes : List ℕ) (held : ℕ) (r : Result ℕ IoFault) → AppendsSome s t name bytes r → PutsSome (file_sink_state s name held) (file_sink_state t name held) bytes r
over_file s t name bytes held (Ok n) a =
    record {
      keeps = record {
        later = a.cause.later;
        own_name = refl;
        reference = refl;
        known = λ h. let p = both s.known (is_some (s.file name)) h in there t name (bytes_at s name ++ take n bytes) (a.stays_known p.0) (a.puts p.0).here;
        beside_known = a.stays_known;
        beside = λ h q. hidden (bytes_eq name q) (t.file q) (s.file q) ((a.puts h).others q);
      };
      cause = a.cause;
      takes = a.takes;
      added = λ h. let p = both s.known (is_some (s.file name)) h in ap (λ (o : Option (List ℕ)). unwrap_or o []) (a.puts p.0).here;
      same = λ h. tt;
    }
over_file s t name bytes held (Err e) a =
    record {
      keeps = record {
        later = a.cause.later;
        own_name = refl;
        reference = refl;
        known = λ h. let p = both s.known (is_some (s.file name)) h in still s t name (a.stays_known p.0) (a.same p.0 name) p.1;
        beside_known = a.stays_known;
        beside = λ h q. hidden (bytes_eq name q) (t.file q) (s.file q) (λ d. a.same h q);
      };
      cause = a.cause;
      takes = tt;
      added = tt;
      same = λ h. let p = both s.known (is_some (s.file name)) h in ap (λ (o : Option (List ℕ)). unwrap_or o []) (a.same p.0 name);
    }
