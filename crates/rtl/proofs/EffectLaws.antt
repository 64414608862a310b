-- The table of effects: an effect depends on what the operation reads, assigns to what it writes, and is the same under other names.
use Rattle.std.proofs.Common.{◌≡◌, ℕ, ◌*◌, ◌/◌, ◌%◌, List, [], ◌∷◌, ◌++◌, map, length, suc, inl, inr, refl, ap, ap₂, ◌∙◌}
use Rattle.cerco_traces.specs.Worlds.{World, next_address, addresses_from}
use Rattle.rtl.specs.declared.operations.Src.{Src}
use Rattle.rtl.specs.declared.operations.Src.TheVariants.{At, Byte}
use Rattle.rtl.specs.declared.operations.Arith.{Arith}
use Rattle.rtl.specs.declared.operations.Arith.TheVariants.{Add, Addc, Subb, And, Or, Xor}
use Rattle.rtl.specs.Operations.{ByteOp}
use Rattle.rtl.specs.Operations.{Const, Move, Op, Mul, Div, Rem, Rlc, Rrc, Top, ClearCarry, SetCarry, FlipCarry, FromCarry, Load, Store, ReadPort, WritePort}
use Rattle.rtl.specs.Effects.{Storage, Loc, Carry, operand_reads, arith_reads, reads, writes, set, Effect, only_sets, operand, carry_into, arith_sets, load_sets, with_bytes, pointer, effect, IsQuiet}
use Rattle.rtl.specs.Graphs.{renamed_operand, renamed_op}
use Rattle.rtl.specs.Liveness.{IsAmong}
use Rattle.rtl.proofs.ValueLaws.{targets, renamed_storage, renamed_assignment}

-- ---- what an effect depends on

pub among_first : (s : Storage) (xs ys : List Storage) → IsAmong s xs → IsAmong s (xs ++ ys)
among_first s [] ys i = absurd i
among_first s (x ∷ xs) ys (inl e) = inl e
among_first s (x ∷ xs) ys (inr i) = inr (among_first s xs ys i)

pub among_second : (s : Storage) (xs ys : List Storage) → IsAmong s ys → IsAmong s (xs ++ ys)
among_second s [] ys i = i
among_second s (x ∷ xs) ys i = inr (among_second s xs ys i)

-- these are seen alike
abbrev pub SeenAlike : (Storage → ℕ) → (Storage → ℕ) → List Storage → Type 0
SeenAlike see see' xs = (s : Storage) → IsAmong s xs → see s ≡ see' s

operand_same : (a : Src ℕ) (see see' : Storage → ℕ) → SeenAlike see see' (operand_reads a) → operand a see ≡ operand a see'
operand_same (At v) see see' same = same (Loc v) (inl refl)
operand_same (Byte n) see see' same = refl

carry_same : (o : Arith) (see see' : Storage → ℕ) → SeenAlike see see' (arith_reads o) → carry_into o see ≡ carry_into o see'
carry_same Add see see' same = refl
carry_same Addc see see' same = rw (same Carry (inl refl)) refl
carry_same Subb see see' same = rw (same Carry (inl refl)) refl
carry_same And see see' same = refl
carry_same Or see see' same = refl
carry_same Xor see see' same = refl

bytes_same : (ss : List ℕ) (see see' : Storage → ℕ) → SeenAlike see see' (map Loc ss) → map (λ s. see (Loc s)) ss ≡ map (λ s. see' (Loc s)) ss
bytes_same [] see see' same = refl
bytes_same (s ∷ ss) see see' same = ap₂ (λ x xs. x ∷ xs) (same (Loc s) (inl refl)) (bytes_same ss see see' (λ t i. same t (inr i)))

pub effect_same : (op : ByteOp ℕ) (see see' : Storage → ℕ) (w : World) → SeenAlike see see' (reads op) → effect op see w ≡ effect op see' w
effect_same (Const d n) see see' w same = refl
effect_same (Move d s) see see' w same = rw (same (Loc s) (inl refl)) refl
effect_same (Op o d a b) see see' w same =
    let x = operand_same a see see' (λ s i. same s (among_second s (arith_reads o) _ (among_first s (operand_reads a) (operand_reads b) i))) in
    let y = operand_same b see see' (λ s i. same s (among_second s (arith_reads o) _ (among_second s (operand_reads a) (operand_reads b) i))) in
    let c = carry_same o see see' (λ s i. same s (among_first s (arith_reads o) _ i)) in
    rw x (rw y (rw c refl))
effect_same (Mul l h a b) see see' w same =
    let x = operand_same a see see' (λ s i. same s (among_first s (operand_reads a) (operand_reads b) i)) in
    let y = operand_same b see see' (λ s i. same s (among_second s (operand_reads a) (operand_reads b) i)) in
    rw x (rw y refl)
effect_same (Div d a b) see see' w same = rw (same (Loc a) (inl refl)) (rw (same (Loc b) (inr (inl refl))) refl)
effect_same (Rem d a b) see see' w same = rw (same (Loc a) (inl refl)) (rw (same (Loc b) (inr (inl refl))) refl)
effect_same (Rlc d a) see see' w same = rw (same Carry (inl refl)) (rw (same (Loc a) (inr (inl refl))) refl)
effect_same (Rrc d a) see see' w same = rw (same Carry (inl refl)) (rw (same (Loc a) (inr (inl refl))) refl)
effect_same (Top a) see see' w same = rw (same (Loc a) (inl refl)) refl
effect_same ClearCarry see see' w same = refl
effect_same SetCarry see see' w same = refl
effect_same FlipCarry see see' w same = rw (same Carry (inl refl)) refl
effect_same (FromCarry d) see see' w same = rw (same Carry (inl refl)) refl
effect_same (Load ds l h) see see' w same = rw (same (Loc l) (inl refl)) (rw (same (Loc h) (inr (inl refl))) refl)
effect_same (Store l h ss) see see' w same =
    let x = bytes_same ss see see' (λ s i. same s (inr (inr i))) in
    rw (same (Loc l) (inl refl)) (rw (same (Loc h) (inr (inl refl))) (rw x refl))
effect_same (ReadPort d) see see' w same = refl
effect_same (WritePort s) see see' w same = rw (same (Loc s) (inl refl)) refl

-- ---- what an effect assigns to

load_targets : (ds : List ℕ) (xram : ℕ → ℕ) (a : ℕ) → targets (load_sets ds xram a) ≡ map Loc ds
load_targets [] xram a = refl
load_targets (d ∷ ds) xram a = ap (λ xs. Loc d ∷ xs) (load_targets ds xram (next_address a))

pub writes_are : (op : ByteOp ℕ) (see : Storage → ℕ) (w : World) → targets (effect op see w).sets ≡ writes op
writes_are (Const d n) see w = refl
writes_are (Move d s) see w = refl
writes_are (Op Add d a b) see w = refl
writes_are (Op Addc d a b) see w = refl
writes_are (Op Subb d a b) see w = refl
writes_are (Op And d a b) see w = refl
writes_are (Op Or d a b) see w = refl
writes_are (Op Xor d a b) see w = refl
writes_are (Mul l h a b) see w = refl
writes_are (Div d a b) see w = refl
writes_are (Rem d a b) see w = refl
writes_are (Rlc d a) see w = refl
writes_are (Rrc d a) see w = refl
writes_are (Top a) see w = refl
writes_are ClearCarry see w = refl
writes_are SetCarry see w = refl
writes_are FlipCarry see w = refl
writes_are (FromCarry d) see w = refl
writes_are (Load ds l h) see w = load_targets ds w.xram (pointer l h see)
writes_are (Store l h ss) see w = refl
writes_are (ReadPort d) see w = refl
writes_are (WritePort s) see w = refl

-- ---- effects under other names

abbrev pub renamed_effect : (ℕ → ℕ) → Effect → Effect
renamed_effect f e = record { sets = map (renamed_assignment f) e.sets; world = e.world; touched = e.touched }

-- what is seen under other names
abbrev pub seen_as : (ℕ → ℕ) → (Storage → ℕ) → (Storage → ℕ)
seen_as f see s = see (renamed_storage f s)

operand_renamed : (f : ℕ → ℕ) (a : Src ℕ) (see : Storage → ℕ) → operand (renamed_operand f a) see ≡ operand a (seen_as f see)
operand_renamed f (At v) see = refl
operand_renamed f (Byte n) see = refl

arith_renamed : (f : ℕ → ℕ) (o : Arith) (d x y : ℕ) (see : Storage → ℕ) → arith_sets o (f d) x y (carry_into o see) ≡ map (renamed_assignment f) (arith_sets o d x y (carry_into o (seen_as f see)))
arith_renamed f Add d x y see = refl
arith_renamed f Addc d x y see = refl
arith_renamed f Subb d x y see = refl
arith_renamed f And d x y see = refl
arith_renamed f Or d x y see = refl
arith_renamed f Xor d x y see = refl

loads_renamed : (f : ℕ → ℕ) (ds : List ℕ) (xram : ℕ → ℕ) (a : ℕ) → load_sets (map f ds) xram a ≡ map (renamed_assignment f) (load_sets ds xram a)
loads_renamed f [] xram a = refl
loads_renamed f (d ∷ ds) xram a = ap (λ xs. set (Loc (f d)) (xram a) ∷ xs) (loads_renamed f ds xram (next_address a))

stores_renamed : (f : ℕ → ℕ) (ss : List ℕ) (see : Storage → ℕ) → map (λ s. see (Loc s)) (map f ss) ≡ map (λ s. seen_as f see (Loc s)) ss
stores_renamed f [] see = refl
stores_renamed f (s ∷ ss) see = ap (λ xs. see (Loc (f s)) ∷ xs) (stores_renamed f ss see)

length-map : (f : ℕ → ℕ) (xs : List ℕ) → length (map f xs) ≡ length xs
length-map f [] = refl
length-map f (x ∷ xs) = ap suc (length-map f xs)

pub effect_renamed : (f : ℕ → ℕ) (op : ByteOp ℕ) (see : Storage → ℕ) (w : World) → effect (renamed_op f op) see w ≡ renamed_effect f (effect op (seen_as f see) w)
effect_renamed f (Const d n) see w = refl
effect_renamed f (Move d s) see w = refl
effect_renamed f (Op o d a b) see w =
    ap₂ (λ x y. only_sets (arith_sets o (f d) x y (carry_into o see)) w) (operand_renamed f a see) (operand_renamed f b see)
    ∙ ap (λ xs. only_sets xs w) (arith_renamed f o d (operand a (seen_as f see)) (operand b (seen_as f see)) see)
effect_renamed f (Mul l h a b) see w =
    ap₂ (λ x y. only_sets (set (Loc (f l)) (x * y % 256) ∷ set (Loc (f h)) (x * y / 256) ∷ set Carry 0 ∷ []) w) (operand_renamed f a see) (operand_renamed f b see)
effect_renamed f (Div d a b) see w = refl
effect_renamed f (Rem d a b) see w = refl
effect_renamed f (Rlc d a) see w = refl
effect_renamed f (Rrc d a) see w = refl
effect_renamed f (Top a) see w = refl
effect_renamed f ClearCarry see w = refl
effect_renamed f SetCarry see w = refl
effect_renamed f FlipCarry see w = refl
effect_renamed f (FromCarry d) see w = refl
effect_renamed f (Load ds l h) see w =
    ap₂ (λ sets n. record { sets = sets; world = w; touched = addresses_from n (pointer l h (seen_as f see)) }) (loads_renamed f ds w.xram (pointer l h (seen_as f see))) (length-map f ds)
effect_renamed f (Store l h ss) see w =
    ap₂ (λ bytes n. record { sets = []; world = record w { xram = with_bytes bytes w.xram (pointer l h (seen_as f see)) }; touched = addresses_from n (pointer l h (seen_as f see)) }) (stores_renamed f ss see) (length-map f ss)
effect_renamed f (ReadPort d) see w = refl
effect_renamed f (WritePort s) see w = refl

-- ---- quiet operations

-- a quiet operation leaves the world as it is
pub quiet_world : (op : ByteOp ℕ) (see : Storage → ℕ) (w : World) → IsQuiet op → (effect op see w).world ≡ w
quiet_world (Const d n) see w quiet = refl
quiet_world (Move d s) see w quiet = refl
quiet_world (Op o d a b) see w quiet = refl
quiet_world (Mul l h a b) see w quiet = refl
quiet_world (Div d a b) see w quiet = refl
quiet_world (Rem d a b) see w quiet = refl
quiet_world (Rlc d a) see w quiet = refl
quiet_world (Rrc d a) see w quiet = refl
quiet_world (Top a) see w quiet = refl
quiet_world ClearCarry see w quiet = refl
quiet_world SetCarry see w quiet = refl
quiet_world FlipCarry see w quiet = refl
quiet_world (FromCarry d) see w quiet = refl
quiet_world (Load ds l h) see w quiet = refl
quiet_world (Store l h ss) see w quiet = absurd quiet
quiet_world (ReadPort d) see w quiet = absurd quiet
quiet_world (WritePort s) see w quiet = absurd quiet
