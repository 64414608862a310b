-- How sequences grow.
use Rattle.std.proofs.Common.{◌≡◌, ℕ, zero, suc, ◌+◌, List, [], ◌∷◌, ◌++◌, refl, sym, ap, ◌∙◌, append_assoc, append-nil, arith}
use Rattle.std.proofs.lemmas.List.{map-append}
use Rattle.rtl.specs.Operations.{ByteOp}
use Rattle.byte_sequences.specs.Sequences.{repeated}

-- the last of k sequences is like the first
repeated-last : {L : Type 0} (k : ℕ) (ops : List (ByteOp L)) → repeated k ops ++ ops ≡ ops ++ repeated k ops
repeated-last zero ops = sym (append-nil ops)
repeated-last (suc k) ops = append_assoc ops (repeated k ops) ops ∙ ap (λ more. ops ++ more) (repeated-last k ops)

-- one sequence more
pub repeated-more : {L : Type 0} (k : ℕ) (before ops : List (ByteOp L)) → (before ++ repeated k ops) ++ ops ≡ before ++ repeated (k + 1) ops
repeated-more k before ops =
    let next : k + 1 ≡ suc k = omega arith in
    append_assoc before (repeated k ops) ops ∙ ap (λ more. before ++ more) (repeated-last k ops ∙ ap (λ n. repeated n ops) (sym next))

pub ruleset pushes = (map-append, append_assoc, append-nil)

pub ruleset growing = (append-nil, repeated-more)
