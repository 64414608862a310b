-- The places that are named, by a key of three numbers: which kind, which function, which node (own).
use Rattle.std.specs.Prelude.{ℕ, Bool, false, ◌&&◌, nat_eq, Option, Some, None}
use Rattle.asm51.specs.declared.items.AsmItem.{AsmItem}
use Rattle.asm51.specs.declared.items.AsmItem.TheVariants.{Enter, Here, Jump, Test, Call}

abbrev pub anchor_of : AsmItem → Option (ℕ × ℕ × ℕ)
anchor_of (Here f n) = Some (0, f, n)
anchor_of (Enter f) = Some (1, f, 0)
anchor_of item = None

abbrev pub wanted_of : AsmItem → Option (ℕ × ℕ × ℕ)
wanted_of (Jump f n) = Some (0, f, n)
wanted_of (Test f n) = Some (0, f, n)
wanted_of (Call f) = Some (1, f, 0)
wanted_of item = None

abbrev pub key_eq : ℕ × ℕ × ℕ → ℕ × ℕ × ℕ → Bool
key_eq p q = (nat_eq p.0 q.0 && nat_eq p.1 q.1) && nat_eq p.2 q.2

abbrev pub has_key : ℕ × ℕ × ℕ → Option (ℕ × ℕ × ℕ) → Bool
has_key q None = false
has_key q (Some p) = key_eq p q

abbrev pub is_anchor : ℕ × ℕ × ℕ → AsmItem → Bool
is_anchor q item = has_key q (anchor_of item)
