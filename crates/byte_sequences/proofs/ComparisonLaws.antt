-- The values of comparisons and tests.
use Rattle.std.proofs.Common.{◌≡◌, ◌≢◌, ℕ, suc, ◌+◌, ◌*◌, ◌-◌, ◌/◌, ◌%◌, ◌<◌, List, [], ◌∷◌, ◌++◌, length, Bool, true, false, not, nat_eq, nat_lt, refl, sym, ap, ap₂, ◌∙◌, arith}
use Rattle.std.specs.Prelude.{bit_or}
use Rattle.std.proofs.lemmas.Nat.{le_or_l, le_or_r}
use Rattle.cerco_base.specs.Bytes.{bit_value, sum_byte, carries, bytes_value, count_of_values}
use Rattle.cerco_middle.specs.Operators.{half_of_values, is_less_signed}
use Rattle.cerco_middle.proofs.MemoryLaws.{low_byte_first, some_values}
use Rattle.rtl.specs.declared.operations.Src.{Src}
use Rattle.rtl.specs.declared.operations.Src.TheVariants.{At, Byte}
use Rattle.rtl.specs.declared.operations.Arith.TheVariants.{Add, Subb, Or}
use Rattle.rtl.specs.Operations.{ByteOp, Op, FromCarry}
use Rattle.rtl.specs.Effects.{Storage, Loc, is_set}
use Rattle.byte_sequences.specs.Sequences.{ats, top, with_top, zeros, difference, turn, flag, order, joins, inequality, moved_tops, signed_less, signed_up_to, joined}
use Rattle.byte_sequences.proofs.Machine.{Cpu, done, all_done, all_done_append, byte, carry, read, operands, value, Off, OffAll, AlikeBut, read_off, carry_same, at_past, sets_both, made}
use Rattle.byte_sequences.proofs.Chains.{Clear, operands_ats, HoldBytes, AreByteSources, ats_bytes, length_read}
use Rattle.byte_sequences.proofs.Sums.{Gives, takes}
use Rattle.byte_sequences.proofs.MoveLaws.{AllApart, AllBytes, zeros_put, read_all_bytes}
use Rattle.byte_sequences.proofs.SoundBytes.{HasBytes, all_done_has_bytes, chain_byte_ops, joins_byte_ops}

-- ---- the carry as a value

abbrev pub turned_by : Bool → Bool → Bool
turned_by true b = not b
turned_by false b = b

record Turns (is_turned : Bool) (c : Cpu) : Type 0 where
  carry_is : carry (all_done (turn is_turned) c) ≡ turned_by is_turned (carry c)
  same : (r : ℕ) → byte (all_done (turn is_turned) c) r ≡ byte c r
  world : (all_done (turn is_turned) c).world ≡ c.world

flipped : (b : Bool) → is_set (1 - bit_value b) ≡ not b
flipped true = refl
flipped false = refl

turns : (is_turned : Bool) (c : Cpu) → Turns is_turned c
turns true c = record { carry_is = ap is_set (carry_same c.see (1 - bit_value (carry c))) ∙ flipped (carry c); same = λ r. at_past c.see (1 - bit_value (carry c)) r; world = refl }
turns false c = record { carry_is = refl; same = λ r. refl; world = refl }

pub flag_gives : (is_turned : Bool) (s t : ℕ) (ts : List ℕ) (c : Cpu) → AllApart (t ∷ ts) → Gives (flag is_turned (t ∷ ts)) s c (t ∷ ts) (bit_value (turned_by is_turned (carry c)))
flag_gives is_turned s t ts c apart =
    let c1 : Cpu = all_done (turn is_turned) c in
    let turned = turns is_turned c in
    let c2 : Cpu = done (FromCarry t) c1 in
    let both = sets_both c1.see t (bit_value (carry c1)) 0 in
    let rest = zeros_put ts c2 apart.1 in
    let first : byte (all_done (zeros ts) c2) t ≡ bit_value (turned_by is_turned (carry c)) = rest.same t apart.0 ∙ both.at ∙ ap bit_value turned.carry_is in
    let others : value ts (all_done (zeros ts) c2) ≡ 0 = rest.is in
    let joined' = all_done_append (turn is_turned) (FromCarry t ∷ zeros ts) c in
    let whole : value (t ∷ ts) (all_done (zeros ts) c2) ≡ bit_value (turned_by is_turned (carry c)) = omega (arith, first, others) in
    record {
      is = ap (value (t ∷ ts)) joined' ∙ whole;
      same = λ r off other. ap (λ (z : Cpu). byte z r) joined' ∙ rest.same r off.1 ∙ both.same r off.0 ∙ turned.same r;
      world = ap (λ (z : Cpu). z.world) joined' ∙ rest.world ∙ turned.world;
    }

-- ---- orders

pub order_gives : (is_turned : Bool) (s t : ℕ) (ts : List ℕ) (xs ys : List (Src ℕ)) (c : Cpu) (x y : ℕ)
    → bytes_value (operands xs c.see) ≡ x → bytes_value (operands ys c.see) ≡ y
    → AllApart (t ∷ ts) → Clear (t ∷ ts) xs ys → AreByteSources xs → AreByteSources ys → HoldBytes c.see
    → Gives (order is_turned (t ∷ ts) xs ys) s c (t ∷ ts) (bit_value (turned_by is_turned (nat_lt x y)))
order_gives is_turned s t ts xs ys c x y x_is y_is apart clear f g hold =
    let d = takes (t ∷ ts) xs ys c x y x_is y_is clear f g hold in
    let c1 : Cpu = all_done (difference (t ∷ ts) xs ys) c in
    let last = flag_gives is_turned s t ts c1 apart in
    let joined' = all_done_append (difference (t ∷ ts) xs ys) (flag is_turned (t ∷ ts)) c in
    record {
      is = ap (value (t ∷ ts)) joined' ∙ last.is ∙ ap (λ b. bit_value (turned_by is_turned b)) d.borrow;
      same = λ r off other. ap (λ (z : Cpu). byte z r) joined' ∙ last.same r off other ∙ d.same r off;
      world = ap (λ (z : Cpu). z.world) joined' ∙ last.world ∙ d.world;
    }

-- ---- equality

-- what t and the others have of bits is 0 exactly where their number is
pub record Joins (t : ℕ) (us : List ℕ) (c : Cpu) : Type 0 where
  pub to_zero : value (t ∷ us) c ≡ 0 → byte (all_done (joins t us) c) t ≡ 0
  pub from_zero : byte (all_done (joins t us) c) t ≡ 0 → value (t ∷ us) c ≡ 0
  pub same : AlikeBut t c.see (all_done (joins t us) c).see
  pub world : (all_done (joins t us) c).world ≡ c.world

or_zero : (a b : ℕ) → bit_or a b ≡ 0 → (a ≡ 0) × (b ≡ 0)
or_zero a b h = let p = le_or_l a b in let q = le_or_r a b in (omega (arith, p, h), omega (arith, q, h))

zero_or : (a b : ℕ) → a ≡ 0 → b ≡ 0 → bit_or a b ≡ 0
zero_or a b h h' = ap₂ bit_or h h'

pub joins_are : (t : ℕ) (us : List ℕ) (c : Cpu) → Off t us → Joins t us c
joins_are t [] c off = record { to_zero = λ h. omega (arith, h); from_zero = λ h. omega (arith, h); same = λ r other. refl; world = refl }
joins_are t (u ∷ us) c off =
    let c1 : Cpu = done (Op Or t (At t) (At u)) c in
    let one = made Or t (At t) (At u) c in
    let now : byte c1 t ≡ bit_or (byte c t) (byte c u) = one.at in
    let rest = joins_are t us c1 off.1 in
    let others : value us c1 ≡ value us c = ap bytes_value (read_off us t c.see c1.see one.same off.1) in
    record {
      to_zero = λ h.
          let a : byte c t ≡ 0 = omega (arith, h) in
          let b : byte c u ≡ 0 = omega (arith, h) in
          let z = zero_or (byte c t) (byte c u) a b in
          rest.to_zero (omega (arith, h, z, now, others));
      from_zero = λ h.
          let e = rest.from_zero h in
          let z : bit_or (byte c t) (byte c u) ≡ 0 = omega (arith, e, now) in
          let both = or_zero (byte c t) (byte c u) z in
          let a = both.0 in
          let b = both.1 in
          omega (arith, e, a, b, others);
      same = λ r other. rest.same r other ∙ one.same r other;
      world = rest.world;
    }

-- a byte and FFH have a carry but where it is 0
carry_of_some : (v : ℕ) → v < 256 → carries 256 v 255 false ≡ not (nat_eq v 0)
unfolding carries
carry_of_some v less = grind (arith, less)

zero_where_same : (v x y : ℕ) → (v ≡ 0 → x ≡ y) → (x ≡ y → v ≡ 0) → nat_eq v 0 ≡ nat_eq x y
zero_where_same v x y f g = grind (arith, f, g)

pub inequality_gives : (is_turned : Bool) (s t : ℕ) (ts us : List ℕ) (c : Cpu) → AllApart (t ∷ ts) → Clear (t ∷ ts) (ats (t ∷ ts)) (ats us) → HasBytes c
    → Gives (inequality is_turned (t ∷ ts) us) s c (t ∷ ts) (bit_value (turned_by is_turned (not (nat_eq (value (t ∷ ts) c) (value us c)))))
inequality_gives is_turned s t ts us c apart clear has =
    let x = value (t ∷ ts) c in
    let y = value us c in
    let first : List (ByteOp ℕ) = difference (t ∷ ts) (ats (t ∷ ts)) (ats us) in
    let last : List (ByteOp ℕ) = Op Add t (At t) (Byte 255) ∷ flag is_turned (t ∷ ts) in
    let d = takes (t ∷ ts) (ats (t ∷ ts)) (ats us) c x y (ap bytes_value (operands_ats (t ∷ ts) c.see)) (ap bytes_value (operands_ats us c.see)) clear (ats_bytes (t ∷ ts)) (ats_bytes us) has.hold in
    let c1 : Cpu = all_done first c in
    let has1 = all_done_has_bytes first c (tt, chain_byte_ops Subb (t ∷ ts) (ats (t ∷ ts)) (ats us) (ats_bytes (t ∷ ts)) (ats_bytes us)) has in
    let j = joins_are t ts c1 apart.0 in
    let c2 : Cpu = all_done (joins t ts) c1 in
    let has2 = all_done_has_bytes (joins t ts) c1 (joins_byte_ops t ts) has1 in
    let one = made Add t (At t) (Byte 255) c2 in
    let c3 : Cpu = done (Op Add t (At t) (Byte 255)) c2 in
    let end = flag_gives is_turned s t ts c3 apart in
    let joined' : all_done (inequality is_turned (t ∷ ts) us) c ≡ all_done (flag is_turned (t ∷ ts)) c3 = all_done_append first (joins t ts ++ last) c ∙ all_done_append (joins t ts) last c1 in
    let carry_is : carry c3 ≡ not (nat_eq x y) =
    one.carry_is ∙ carry_of_some (byte c2 t) (has2.hold t) ∙ ap not (zero_where_same (byte c2 t) x y (λ z. d.none (j.from_zero z)) (λ e. j.to_zero (d.from_none e))) in
    record {
      is = ap (value (t ∷ ts)) joined' ∙ end.is ∙ ap (λ b. bit_value (turned_by is_turned b)) carry_is;
      same = λ r off other. ap (λ (z : Cpu). byte z r) joined' ∙ end.same r off other ∙ one.same r off.0 ∙ j.same r off.0 ∙ d.same r off;
      world = ap (λ (z : Cpu). z.world) joined' ∙ end.world ∙ j.world ∙ d.world;
    }

-- ---- orders of signed numbers

-- the last byte is moved on by half of all bytes
abbrev pub moved_bytes : List ℕ → List ℕ
moved_bytes [] = []
moved_bytes (b ∷ []) = sum_byte b 128 false ∷ []
moved_bytes (b ∷ (b' ∷ bs)) = b ∷ moved_bytes (b' ∷ bs)

one_byte : (b : ℕ) → b < 256 → sum_byte b 128 false + 256 * 0 ≡ (b + 256 * 0 + 128) % 256
unfolding sum_byte
one_byte b less = omega (arith, less)

-- half of the numbers of more bytes
half_more : (n : ℕ) → half_of_values (suc (suc n)) ≡ 256 * half_of_values (suc n)
half_more n = omega arith

byte_before : (b v h c : ℕ) → b < 256 → 0 < c → b + 256 * ((v + h) % c) ≡ (b + 256 * v + 256 * h) % (256 * c)
byte_before b v h c less some =
    let low : (b + 256 * v + 256 * h) % 256 ≡ b = omega (arith, less) in
    let high : (b + 256 * v + 256 * h) / 256 ≡ v + h = omega (arith, less) in
    sym (ap₂ (λ x y. x + 256 * (y % c)) low high) ∙ low_byte_first (b + 256 * v + 256 * h) c some

moved_value : (b : ℕ) (bs : List ℕ) → AllBytes (b ∷ bs) → bytes_value (moved_bytes (b ∷ bs)) ≡ (bytes_value (b ∷ bs) + half_of_values (suc (length bs))) % count_of_values (suc (length bs))
moved_value b [] all = one_byte b all.0
moved_value b (b' ∷ bs) all =
    ap (λ v. b + 256 * v) (moved_value b' bs all.1)
    ∙ byte_before b (bytes_value (b' ∷ bs)) (half_of_values (suc (length bs))) (count_of_values (suc (length bs))) all.0 (some_values (suc (length bs)))
    ∙ ap (λ h. (b + 256 * bytes_value (b' ∷ bs) + h) % (256 * count_of_values (suc (length bs)))) (sym (half_more (length bs)))

pub off_top : (r t : ℕ) (ts : List ℕ) → Off r (t ∷ ts) → r ≢ top t ts
off_top r t [] off = off.0
off_top r t (u ∷ ts) off = off_top r u ts off.1

-- r is none of these but perhaps the last one
abbrev pub LowOff : ℕ → List ℕ → Type 0
LowOff r [] = Unit {0}
LowOff r (u ∷ []) = Unit {0}
LowOff r (u ∷ (v ∷ us)) = (r ≢ u) × LowOff r (v ∷ us)

-- the last one is moved
top_moved : (t : ℕ) (ts : List ℕ) (see see' : Storage → ℕ) → AllApart (t ∷ ts) → AlikeBut (top t ts) see see' → see' (Loc (top t ts)) ≡ sum_byte (see (Loc (top t ts))) 128 false
    → read (t ∷ ts) see' ≡ moved_bytes (read (t ∷ ts) see)
top_moved t [] see see' apart alike moved = ap (λ b. b ∷ []) moved
top_moved t (u ∷ ts) see see' apart alike moved = ap₂ (λ b bs. b ∷ bs) (alike t (off_top t u ts apart.0)) (top_moved u ts see see' apart.1 alike moved)

-- the last one is moved into s, and no other one changes but perhaps r
with_top_moved : (s r u : ℕ) (us : List ℕ) (see see' : Storage → ℕ) → ((q : ℕ) → q ≢ s → q ≢ r → see' (Loc q) ≡ see (Loc q)) → Off s (u ∷ us) → LowOff r (u ∷ us) → see' (Loc s) ≡ sum_byte (see (Loc (top u us))) 128 false
    → read (with_top s (u ∷ us)) see' ≡ moved_bytes (read (u ∷ us) see)
with_top_moved s r u [] see see' alike off low moved = ap (λ b. b ∷ []) moved
with_top_moved s r u (v ∷ us) see see' alike off low moved =
    ap₂ (λ b bs. b ∷ bs) (alike u (λ e. off.0 (sym e)) (λ e. low.0 (sym e))) (with_top_moved s r v us see see' alike off.1 low.1 moved)

off_with_top : (t s : ℕ) (us : List ℕ) → OffAll t (ats us) → t ≢ s → OffAll t (ats (with_top s us))
off_with_top t s [] off other = tt
off_with_top t s (u ∷ []) off other = (other, tt)
off_with_top t s (u ∷ (v ∷ us)) off other = (off.0, off_with_top t s (v ∷ us) off.1 other)

clear_with_top : (s : ℕ) (ts : List ℕ) (xs : List (Src ℕ)) (us : List ℕ) → Clear ts xs (ats us) → Off s ts → Clear ts xs (ats (with_top s us))
clear_with_top s [] [] [] h off = tt
clear_with_top s [] [] (u ∷ us) h off = absurd h
clear_with_top s [] (x ∷ xs) us h off = absurd h
clear_with_top s (t ∷ ts) [] us h off = absurd h
clear_with_top s (t ∷ ts) (x ∷ xs) [] h off = absurd h
clear_with_top s (t ∷ ts) (x ∷ xs) (u ∷ []) h off = (h.0, h.1, h.2, h.3)
clear_with_top s (t ∷ ts) (x ∷ xs) (u ∷ (v ∷ us)) h off =
    (h.0, h.1, off_with_top t s (v ∷ us) h.2 (λ e. off.0 (sym e)), clear_with_top s ts xs (v ∷ us) h.3 off.1)

pub clear_turned : (ts : List ℕ) (xs ys : List (Src ℕ)) → Clear ts xs ys → Clear ts ys xs
clear_turned [] [] [] h = tt
clear_turned [] [] (y ∷ ys) h = absurd h
clear_turned [] (x ∷ xs) [] h = absurd h
clear_turned [] (x ∷ xs) (y ∷ ys) h = absurd h
clear_turned (t ∷ ts) [] [] h = absurd h
clear_turned (t ∷ ts) [] (y ∷ ys) h = absurd h
clear_turned (t ∷ ts) (x ∷ xs) [] h = absurd h
clear_turned (t ∷ ts) (x ∷ xs) (y ∷ ys) h = (h.0, h.2, h.1, clear_turned ts xs ys h.3)

length_ats : (ts : List ℕ) (xs : List (Src ℕ)) (us : List ℕ) → Clear ts xs (ats us) → length us ≡ length ts
length_ats [] [] [] h = refl
length_ats [] [] (u ∷ us) h = absurd h
length_ats [] (x ∷ xs) us h = absurd h
length_ats (t ∷ ts) [] us h = absurd h
length_ats (t ∷ ts) (x ∷ xs) [] h = absurd h
length_ats (t ∷ ts) (x ∷ xs) (u ∷ us) h = ap suc (length_ats ts xs us h.3)

-- both values are moved on by half of all numbers, the second one with its top byte in s
record Moves (s t : ℕ) (ts : List ℕ) (u : ℕ) (us : List ℕ) (c : Cpu) : Type 0 where
  left : value (t ∷ ts) (all_done (moved_tops s (t ∷ ts) (u ∷ us)) c) ≡ (value (t ∷ ts) c + half_of_values (length (t ∷ ts))) % count_of_values (length (t ∷ ts))
  right : value (with_top s (u ∷ us)) (all_done (moved_tops s (t ∷ ts) (u ∷ us)) c) ≡ (value (u ∷ us) c + half_of_values (length (t ∷ ts))) % count_of_values (length (t ∷ ts))
  same : (r : ℕ) → Off r (t ∷ ts) → r ≢ s → byte (all_done (moved_tops s (t ∷ ts) (u ∷ us)) c) r ≡ byte c r
  hold : HoldBytes (all_done (moved_tops s (t ∷ ts) (u ∷ us)) c).see

module _ (s t : ℕ) (ts : List ℕ) (u : ℕ) (us : List ℕ) (c : Cpu) (apart : AllApart (t ∷ ts)) (clear : Clear (t ∷ ts) (ats (t ∷ ts)) (ats (u ∷ us)))
    (s_off_t : Off s (t ∷ ts)) (s_off_u : Off s (u ∷ us)) (low : LowOff (top t ts) (u ∷ us)) (has : HasBytes c) where
  moves : Moves s t ts u us c
  moves =
      let first = made Add s (At (top u us)) (Byte 128) c in
      let c1 : Cpu = done (Op Add s (At (top u us)) (Byte 128)) c in
      let second = made Add (top t ts) (At (top t ts)) (Byte 128) c1 in
      let c2 : Cpu = done (Op Add (top t ts) (At (top t ts)) (Byte 128)) c1 in
      let s_other : s ≢ top t ts = off_top s t ts s_off_t in
      let top_is : byte c2 (top t ts) ≡ sum_byte (byte c1 (top t ts)) 128 false = second.at in
      let left_bytes : read (t ∷ ts) c2.see ≡ moved_bytes (read (t ∷ ts) c.see) =
      top_moved t ts c1.see c2.see apart second.same top_is ∙ ap moved_bytes (read_off (t ∷ ts) s c.see c1.see first.same s_off_t) in
      let s_is : byte c2 s ≡ sum_byte (byte c (top u us)) 128 false = second.same s s_other ∙ first.at in
      let right_bytes : read (with_top s (u ∷ us)) c2.see ≡ moved_bytes (read (u ∷ us) c.see) =
      with_top_moved s (top t ts) u us c.see c2.see (λ q not_s not_t. second.same q not_t ∙ first.same q not_s) s_off_u low s_is in
      let long : length us ≡ length ts = length_ats ts (ats ts) us clear.3 in
      let has2 = all_done_has_bytes (moved_tops s (t ∷ ts) (u ∷ us)) c ((tt, omega arith), ((tt, omega arith), tt)) has in
      record {
        left = ap bytes_value left_bytes ∙ moved_value (byte c t) (read ts c.see) (read_all_bytes (t ∷ ts) c.see has.hold)
            ∙ ap (λ n. (value (t ∷ ts) c + half_of_values (suc n)) % count_of_values (suc n)) (length_read ts c.see);
        right = ap bytes_value right_bytes ∙ moved_value (byte c u) (read us c.see) (read_all_bytes (u ∷ us) c.see has.hold)
            ∙ ap (λ n. (value (u ∷ us) c + half_of_values (suc n)) % count_of_values (suc n)) (length_read us c.see ∙ long);
        same = λ r off other. second.same r (off_top r t ts off) ∙ first.same r other;
        hold = has2.hold;
      }

  pub signed_less_gives : Gives (signed_less s (t ∷ ts) (u ∷ us)) s c (t ∷ ts) (bit_value (is_less_signed (length (t ∷ ts)) (value (t ∷ ts) c) (value (u ∷ us) c)))
  signed_less_gives =
      let m = moves in
      let ops = moved_tops s (t ∷ ts) (u ∷ us) in
      let c2 : Cpu = all_done ops c in
      let rest = order_gives false s t ts (ats (t ∷ ts)) (ats (with_top s (u ∷ us))) c2 _ _
      (ap bytes_value (operands_ats (t ∷ ts) c2.see) ∙ m.left) (ap bytes_value (operands_ats (with_top s (u ∷ us)) c2.see) ∙ m.right)
      apart (clear_with_top s (t ∷ ts) (ats (t ∷ ts)) (u ∷ us) clear s_off_t) (ats_bytes (t ∷ ts)) (ats_bytes (with_top s (u ∷ us))) m.hold in
      let joined' = all_done_append ops (order false (t ∷ ts) (ats (t ∷ ts)) (ats (with_top s (u ∷ us)))) c in
      record {
        is = ap (value (t ∷ ts)) joined' ∙ rest.is;
        same = λ r off other. ap (λ (z : Cpu). byte z r) joined' ∙ rest.same r off other ∙ m.same r off other;
        world = ap (λ (z : Cpu). z.world) joined' ∙ rest.world;
      }

  pub signed_up_to_gives : Gives (signed_up_to s (t ∷ ts) (u ∷ us)) s c (t ∷ ts) (bit_value (not (is_less_signed (length (t ∷ ts)) (value (u ∷ us) c) (value (t ∷ ts) c))))
  signed_up_to_gives =
      let m = moves in
      let ops = moved_tops s (t ∷ ts) (u ∷ us) in
      let c2 : Cpu = all_done ops c in
      let rest = order_gives true s t ts (ats (with_top s (u ∷ us))) (ats (t ∷ ts)) c2 _ _
      (ap bytes_value (operands_ats (with_top s (u ∷ us)) c2.see) ∙ m.right) (ap bytes_value (operands_ats (t ∷ ts) c2.see) ∙ m.left)
      apart (clear_turned (t ∷ ts) (ats (t ∷ ts)) (ats (with_top s (u ∷ us))) (clear_with_top s (t ∷ ts) (ats (t ∷ ts)) (u ∷ us) clear s_off_t)) (ats_bytes (with_top s (u ∷ us))) (ats_bytes (t ∷ ts)) m.hold in
      let joined' = all_done_append ops (order true (t ∷ ts) (ats (with_top s (u ∷ us))) (ats (t ∷ ts))) c in
      record {
        is = ap (value (t ∷ ts)) joined' ∙ rest.is;
        same = λ r off other. ap (λ (z : Cpu). byte z r) joined' ∙ rest.same r off other ∙ m.same r off other;
        world = ap (λ (z : Cpu). z.world) joined' ∙ rest.world;
      }

-- ---- tests

-- the byte at s is 0 exactly where the value is
pub record Tests (s : ℕ) (ts : List ℕ) (c : Cpu) : Type 0 where
  pub to_zero : value ts c ≡ 0 → byte (all_done (joined s ts) c) s ≡ 0
  pub from_zero : byte (all_done (joined s ts) c) s ≡ 0 → value ts c ≡ 0
  pub same : AlikeBut s c.see (all_done (joined s ts) c).see
  pub world : (all_done (joined s ts) c).world ≡ c.world

pub tests : (s t u : ℕ) (us : List ℕ) (c : Cpu) → Off s us → Tests s (t ∷ u ∷ us) c
tests s t u us c off =
    let c1 : Cpu = done (Op Or s (At t) (At u)) c in
    let one = made Or s (At t) (At u) c in
    let now : byte c1 s ≡ bit_or (byte c t) (byte c u) = one.at in
    let rest = joins_are s us c1 off in
    let others : value us c1 ≡ value us c = ap bytes_value (read_off us s c.see c1.see one.same off) in
    record {
      to_zero = λ h.
          let a : byte c t ≡ 0 = omega (arith, h) in
          let b : byte c u ≡ 0 = omega (arith, h) in
          let z = zero_or (byte c t) (byte c u) a b in
          rest.to_zero (omega (arith, h, z, now, others));
      from_zero = λ h.
          let e = rest.from_zero h in
          let z : bit_or (byte c t) (byte c u) ≡ 0 = omega (arith, e, now) in
          let both = or_zero (byte c t) (byte c u) z in
          let a = both.0 in
          let b = both.1 in
          omega (arith, e, a, b, others);
      same = λ r other. rest.same r other ∙ one.same r other;
      world = rest.world;
    }
