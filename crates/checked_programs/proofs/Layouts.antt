-- A layout places the globals, and the frame of each function, one after the other, and changes nothing else.
use Rattle.std.proofs.Common.{◌≡◌, ℕ, zero, suc, ◌+◌, ◌-◌, ◌≤◌, Bool, true, false, IsTrue, List, [], ◌∷◌, ◌++◌, length, map, take, drop, Some, refl, sym, ap, ap₂, subst, ◌∙◌, arith, length-append, length-drop, length-take, take-append-drop, append_assoc}
use Rattle.std.specs.Prelude.{slice_get, if◌then◌else◌}
use Rattle.std.proofs.lemmas.Bool.{false≢true}
use Rattle.std.proofs.lemmas.Option.{none-some, same_Some}
use Rattle.c_types.specs.Types.{StructType}
use Rattle.clight_syntax.specs.declared.typed.Home.{Home}
use Rattle.clight_syntax.specs.declared.typed.Home.TheVariants as h
use Rattle.clight_syntax.specs.TypedTrees.{Function, Variable', own_count, own_variables}
use Rattle.clight_layout.specs.declared.sizes.Area.{Area}
use Rattle.clight_layout.specs.declared.sizes.Area.TheVariants.{Globals, Frame}
use Rattle.clight_layout.specs.Frames.{lies_in, room_of, at_address, placed, with_frame, with_frames}
use Rattle.clight_typing.specs.Programs.{without_address}
use Rattle.checked_programs.proofs.Homes.{AreLaid}

-- ---- lists

pub take_front : {A : Type 0} (xs ys : List A) → take (length xs) (xs ++ ys) ≡ xs
take_front [] ys = refl
take_front (x ∷ xs) ys = ap (λ zs. x ∷ zs) (take_front xs ys)

pub drop_front : {A : Type 0} (xs ys : List A) → drop (length xs) (xs ++ ys) ≡ ys
drop_front [] ys = refl
drop_front (x ∷ xs) ys = drop_front xs ys

pub take_past : {A : Type 0} (xs ys : List A) (k : ℕ) → take (length xs + k) (xs ++ ys) ≡ xs ++ take k ys
take_past [] ys k = let e : 0 + k ≡ k = omega arith in ap (λ n. take n ys) e
take_past (x ∷ xs) ys k =
    let e : suc (length xs) + k ≡ suc (length xs + k) = omega arith in
    ap (λ n. take n (x ∷ (xs ++ ys))) e ∙ ap (λ zs. x ∷ zs) (take_past xs ys k)

pub drop_past : {A : Type 0} (xs ys : List A) (k : ℕ) → drop (length xs + k) (xs ++ ys) ≡ drop k ys
drop_past [] ys k = let e : 0 + k ≡ k = omega arith in ap (λ n. drop n ys) e
drop_past (x ∷ xs) ys k =
    let e : suc (length xs) + k ≡ suc (length xs + k) = omega arith in
    ap (λ n. drop n (x ∷ (xs ++ ys))) e ∙ drop_past xs ys k

pub length_placed : (area : Area) (structs : List StructType) (at : ℕ) (xs : List Variable') → length (placed area structs at xs) ≡ length xs
length_placed area structs at [] = refl
length_placed area structs at (x ∷ xs) = ap suc (length_placed area structs (at + room_of area structs x) xs)

-- ---- homes and types, and where globals lie, stay

abbrev pub Keeps : List Variable' → List Variable' → Type 0
Keeps [] [] = Unit {0}
Keeps (x ∷ xs) (y ∷ ys) = (without_address x ≡ without_address y) × (IsTrue (lies_in Globals x.home) → x.address ≡ y.address) × Keeps xs ys
Keeps xs ys = ⊥

pub keeps_itself : (xs : List Variable') → Keeps xs xs
keeps_itself [] = tt
keeps_itself (x ∷ xs) = (refl, λ _. refl, keeps_itself xs)

pub keeps_then : (xs ys zs : List Variable') → Keeps xs ys → Keeps ys zs → Keeps xs zs
keeps_then [] [] [] a b = tt
keeps_then (x ∷ xs) (y ∷ ys) (z ∷ zs) a b =
    let home : x.home ≡ y.home = ap (λ (v : Variable'). v.home) a.0 in
    (a.0 ∙ b.0, (λ lies. a.1 lies ∙ b.1 (subst (λ o. IsTrue (lies_in Globals o)) home lies)), keeps_then xs ys zs a.2 b.2)
keeps_then [] [] (z ∷ zs) a b = absurd b
keeps_then [] (y ∷ ys) zs a b = absurd a
keeps_then (x ∷ xs) [] zs a b = absurd a
keeps_then (x ∷ xs) (y ∷ ys) [] a b = absurd b

keeps_append : (xs ys us vs : List Variable') → Keeps xs ys → Keeps us vs → Keeps (xs ++ us) (ys ++ vs)
keeps_append [] [] us vs a b = b
keeps_append (x ∷ xs) (y ∷ ys) us vs a b = (a.0, a.1, keeps_append xs ys us vs a.2 b)
keeps_append [] (y ∷ ys) us vs a b = absurd a
keeps_append (x ∷ xs) [] us vs a b = absurd a

placed_keeps : (structs : List StructType) (at : ℕ) (xs : List Variable') → Keeps xs (placed Frame structs at xs)
placed_keeps structs at [] = tt
placed_keeps structs at (x ∷ xs) = (by (lies_in Frame x.home), kept x.home refl, placed_keeps structs (at + room_of Frame structs x) xs)
  where
    by : (b : Bool) → without_address x ≡ without_address (if b then at_address at x else x)
    by true = refl
    by false = refl

    kept : (home : Home) → x.home ≡ home → IsTrue (lies_in Globals home) → x.address ≡ (if lies_in Frame home then at_address at x else x).address
    kept (h.Global b) e lies = refl
    kept (h.Block b) e lies = absurd (false≢true lies)
    kept (h.Scalar n) e lies = absurd (false≢true lies)

keeps_laid : (structs : List StructType) (at : ℕ) (xs ys : List Variable') → Keeps xs ys → AreLaid Globals structs at xs → AreLaid Globals structs at ys
keeps_laid structs at [] [] k l = tt
keeps_laid structs at (x ∷ xs) (y ∷ ys) k l =
    let home : x.home ≡ y.home = ap (λ (v : Variable'). v.home) k.0 in
    let room : room_of Globals structs x ≡ room_of Globals structs y = ap (λ (v : Variable'). room_of Globals structs v) k.0 in (
      (λ lies. let lies' = subst (λ o. IsTrue (lies_in Globals o)) (sym home) lies in sym (k.1 lies') ∙ l.0 lies'),
      subst (λ n. AreLaid Globals structs (at + n) ys) room (keeps_laid structs (at + room_of Globals structs x) xs ys k.2 l.1),
    )
keeps_laid structs at [] (y ∷ ys) k l = absurd k
keeps_laid structs at (x ∷ xs) [] k l = absurd k

keeps_map : (xs ys : List Variable') → Keeps xs ys → map without_address xs ≡ map without_address ys
keeps_map [] [] k = refl
keeps_map (x ∷ xs) (y ∷ ys) k = ap₂ (λ a b. a ∷ b) k.0 (keeps_map xs ys k.2)
keeps_map [] (y ∷ ys) k = absurd k
keeps_map (x ∷ xs) [] k = absurd k

-- ---- frames

module _ {L : Type 0} (structs : List StructType) where
  frame_keeps : (f : Function L) (at : ℕ) (xs : List Variable') → Keeps xs (with_frame structs f at xs)
  frame_keeps f at xs =
      let rest = drop f.first_variable xs in
      let split : take f.first_variable xs ++ (take (own_count f) (drop f.first_variable xs) ++ drop (own_count f) (drop f.first_variable xs)) ≡ xs =
      ap (λ zs. take f.first_variable xs ++ zs) (take-append-drop (own_count f) (drop f.first_variable xs)) ∙ take-append-drop f.first_variable xs
      in
      subst (λ ys. Keeps ys (with_frame structs f at xs)) split
      (keeps_append (take f.first_variable xs) (take f.first_variable xs) _ _ (keeps_itself (take f.first_variable xs))
      (keeps_append (own_variables f xs) (placed Frame structs at (own_variables f xs)) _ _ (placed_keeps structs at (own_variables f xs)) (keeps_itself (drop (own_count f) (drop f.first_variable xs)))))

  pub frames_keep : (fs : List (Function L)) (starts : List ℕ) (xs : List Variable') → Keeps xs (with_frames structs fs starts xs)
  frames_keep [] starts xs = keeps_itself xs
  frames_keep (f ∷ fs) [] xs = keeps_itself xs
  frames_keep (f ∷ fs) (at ∷ starts) xs = keeps_then xs (with_frame structs f at xs) (with_frames structs fs starts (with_frame structs f at xs)) (frame_keeps f at xs) (frames_keep fs starts (with_frame structs f at xs))

  pub globals_laid : (fs : List (Function L)) (starts : List ℕ) (at : ℕ) (xs : List Variable') → AreLaid Globals structs at xs → AreLaid Globals structs at (with_frames structs fs starts xs)
  globals_laid fs starts at xs l = keeps_laid structs at xs (with_frames structs fs starts xs) (frames_keep fs starts xs) l

  pub frames_same : (fs : List (Function L)) (starts : List ℕ) (xs : List Variable') → map without_address (with_frames structs fs starts xs) ≡ map without_address xs
  frames_same fs starts xs = sym (keeps_map xs (with_frames structs fs starts xs) (frames_keep fs starts xs))

  -- the variables of the functions come one after the other, from a number on, among so many
  abbrev pub AreInTurn : ℕ → List (Function L) → ℕ → Type 0
  AreInTurn n [] count = n ≤ count
  AreInTurn n (f ∷ fs) count = (n ≤ f.first_variable) × AreInTurn (f.first_variable + own_count f) fs count

  turn_ends : (n : ℕ) (fs : List (Function L)) (count : ℕ) → AreInTurn n fs count → n ≤ count
  turn_ends n [] count t = t
  turn_ends n (f ∷ fs) count t = let rest = turn_ends (f.first_variable + own_count f) fs count t.1 in let le = t.0 in omega arith

  pub turn_less : (n m : ℕ) (fs : List (Function L)) (count : ℕ) → m ≤ n → AreInTurn n fs count → AreInTurn m fs count
  turn_less n m [] count le t = omega arith
  turn_less n m (f ∷ fs) count le t = let t0 = t.0 in (omega arith, t.1)

  -- the frames of functions whose variables come after a list's front leave that as it is
  front_stays : (fs : List (Function L)) (starts : List ℕ) (front rest : List Variable') → AreInTurn (length front) fs (length front + length rest)
      → (rest' : List Variable') × (length rest' ≡ length rest) × (with_frames structs fs starts (front ++ rest) ≡ front ++ rest')
  front_stays [] starts front rest t = (rest, refl, refl)
  front_stays (f ∷ fs) [] front rest t = (rest, refl, refl)
  front_stays (f ∷ fs) (at ∷ starts) front rest t =
      let le = t.0 in
      let k : ℕ = f.first_variable - length front in
      let n : f.first_variable ≡ length front + k = omega arith in
      let ends = turn_ends (f.first_variable + own_count f) fs (length front + length rest) t.1 in
      let c : ℕ = own_count f in
      let P : List Variable' = placed Frame structs at (take c (drop k rest)) in
      let rest1 : List Variable' = take k rest ++ (P ++ drop c (drop k rest)) in
      let dropped : drop f.first_variable (front ++ rest) ≡ drop k rest = ap (λ m. drop m (front ++ rest)) n ∙ drop_past front rest k in
      let one : with_frame structs f at (front ++ rest) ≡ front ++ rest1 =
      ap₂ (λ a b. a ++ (placed Frame structs at (take c b) ++ drop c b)) (ap (λ m. take m (front ++ rest)) n ∙ take_past front rest k) dropped ∙ append_assoc front (take k rest) (P ++ drop c (drop k rest))
      in
      let size1 : length rest1 ≡ length rest =
      length-append (take k rest) (P ++ drop c (drop k rest))
      ∙ ap (λ m. length (take k rest) + m) (length-append P (drop c (drop k rest)) ∙ ap (λ m. m + length (drop c (drop k rest))) (length_placed Frame structs at (take c (drop k rest))) ∙ sym (length-append (take c (drop k rest)) (drop c (drop k rest))) ∙ ap length (take-append-drop c (drop k rest)))
      ∙ sym (length-append (take k rest) (drop k rest)) ∙ ap length (take-append-drop k rest)
      in
      let turn : AreInTurn (length front) fs (length front + length rest1) =
      subst (λ m. AreInTurn (length front) fs (length front + m)) (sym size1) (turn_less (f.first_variable + own_count f) (length front) fs (length front + length rest) (omega arith) t.1)
      in
      let more = front_stays fs starts front rest1 turn in
      (more.0, more.1 ∙ size1, ap (with_frames structs fs starts) one ∙ more.2)

  -- a list cut at a function's own variables
  cut : (f : Function L) (xs : List Variable') → f.first_variable + own_count f ≤ length xs
      → (length (take f.first_variable xs) ≡ f.first_variable) × (length (own_variables f xs) ≡ own_count f)
  cut f xs le =
      let a = length-take f.first_variable xs in
      let d = length-drop f.first_variable xs in
      let b = length-take (own_count f) (drop f.first_variable xs) in
      (omega arith, omega arith)

  pub own_of : (f : Function L) (before own after : List Variable') → length before ≡ f.first_variable → length own ≡ own_count f → own_variables f ((before ++ own) ++ after) ≡ own
  own_of f before own after e k =
      let inner : drop f.first_variable ((before ++ own) ++ after) ≡ own ++ after =
      ap₂ (λ n zs. drop n zs) (sym e) (append_assoc before own after) ∙ drop_front before (own ++ after)
      in
      ap₂ (λ n zs. take n zs) (sym k) inner ∙ take_front own after

  pub frames_placed : (n : ℕ) (fs : List (Function L)) (starts : List ℕ) (xs : List Variable') → AreInTurn n fs (length xs) → (i : ℕ) (f : Function L) (at : ℕ) → slice_get fs i ≡ Some f → slice_get starts i ≡ Some at
      → own_variables f (with_frames structs fs starts xs) ≡ placed Frame structs at (own_variables f xs)
  frames_placed n [] starts xs t i f at is start = absurd (none-some f is)
  frames_placed n (g ∷ fs) [] xs t i f at is start = absurd (none-some at start)
  frames_placed n (g ∷ fs) (s ∷ starts) xs t zero f at is start =
      let same = same_Some _ _ is in
      let there = same_Some _ _ start in
      subst (λ (q : Function L). own_variables q (with_frames structs (g ∷ fs) (s ∷ starts) xs) ≡ placed Frame structs at (own_variables q xs)) same
      (subst (λ a. own_variables g (with_frames structs (g ∷ fs) (s ∷ starts) xs) ≡ placed Frame structs a (own_variables g xs)) there first)
    where
      first : own_variables g (with_frames structs fs starts (with_frame structs g s xs)) ≡ placed Frame structs s (own_variables g xs)
      first =
          let ends = turn_ends (g.first_variable + own_count g) fs (length xs) t.1 in
          let sizes = cut g xs ends in
          let A : List Variable' = take g.first_variable xs in
          let P : List Variable' = placed Frame structs s (own_variables g xs) in
          let R : List Variable' = drop (own_count g) (drop g.first_variable xs) in
          let p_size : length P ≡ own_count g = length_placed Frame structs s (own_variables g xs) ∙ sizes.1 in
          let a_size : length A ≡ g.first_variable = sizes.0 in
          let front_size : length (A ++ P) ≡ g.first_variable + own_count g = length-append A P ∙ ap₂ (λ a b. a + b) a_size p_size in
          let r1 = length-drop g.first_variable xs in
          let r2 = length-drop (own_count g) (drop g.first_variable xs) in
          let r_size : length (A ++ P) + length R ≡ length xs = omega arith in
          let turn : AreInTurn (length (A ++ P)) fs (length (A ++ P) + length R) = subst (λ m. AreInTurn (length (A ++ P)) fs m) (sym r_size) (subst (λ m. AreInTurn m fs (length xs)) (sym front_size) t.1) in
          let stays = front_stays fs starts (A ++ P) R turn in
          ap (λ zs. own_variables g (with_frames structs fs starts zs)) (sym (append_assoc A P R)) ∙ ap (own_variables g) stays.2 ∙ own_of g A P stays.0 a_size p_size
  frames_placed n (g ∷ fs) (s ∷ starts) xs t (suc i) f at is start =
      let ends = turn_ends (g.first_variable + own_count g) fs (length xs) t.1 in
      let sizes = cut g xs ends in
      let A : List Variable' = take g.first_variable xs in
      let O : List Variable' = own_variables g xs in
      let P : List Variable' = placed Frame structs s (own_variables g xs) in
      let R : List Variable' = drop (own_count g) (drop g.first_variable xs) in
      let p_size : length P ≡ own_count g = length_placed Frame structs s (own_variables g xs) ∙ sizes.1 in
      let front : length (A ++ P) ≡ g.first_variable + own_count g = length-append A P ∙ ap₂ (λ a b. a + b) sizes.0 p_size in
      let front' : length (A ++ O) ≡ g.first_variable + own_count g = length-append A O ∙ ap₂ (λ a b. a + b) sizes.0 sizes.1 in
      let xs1 : List Variable' = with_frame structs g s xs in
      let split : xs ≡ (A ++ O) ++ R =
      sym (take-append-drop g.first_variable xs) ∙ ap (λ zs. A ++ zs) (sym (take-append-drop (own_count g) (drop g.first_variable xs))) ∙ sym (append_assoc A O R)
      in
      let split1 : xs1 ≡ (A ++ P) ++ R = sym (append_assoc A P R) in
      let size1 : length xs1 ≡ length xs = ap length split1 ∙ length-append (A ++ P) R ∙ ap (λ m. m + length R) (front ∙ sym front') ∙ sym (length-append (A ++ O) R) ∙ ap length (sym split) in
      let turn : AreInTurn (g.first_variable + own_count g) fs (length xs1) = subst (λ m. AreInTurn (g.first_variable + own_count g) fs m) (sym size1) t.1 in
      let later = frames_placed (g.first_variable + own_count g) fs starts xs1 turn i f at is start in
      let after = in_turn_at (g.first_variable + own_count g) fs (length xs) t.1 i f is in
      let k : ℕ = f.first_variable - (g.first_variable + own_count g) in
      let n1 : f.first_variable ≡ length (A ++ P) + k = omega arith in
      let n2 : f.first_variable ≡ length (A ++ O) + k = omega arith in
      let same : drop f.first_variable xs1 ≡ drop f.first_variable xs =
      ap₂ (λ m zs. drop m zs) n1 split1 ∙ drop_past (A ++ P) R k ∙ sym (drop_past (A ++ O) R k) ∙ ap₂ (λ m zs. drop m zs) (sym n2) (sym split)
      in
      later ∙ ap (λ zs. placed Frame structs at (take (own_count f) zs)) same
    where
      in_turn_at : (n : ℕ) (fs : List (Function L)) (count : ℕ) → AreInTurn n fs count → (i : ℕ) (f : Function L) → slice_get fs i ≡ Some f → n ≤ f.first_variable
      in_turn_at n [] count t i f is = absurd (none-some f is)
      in_turn_at n (q ∷ fs) count t zero f is = subst (λ (x : Function L). n ≤ x.first_variable) (same_Some _ _ is) t.0
      in_turn_at n (q ∷ fs) count t (suc i) f is = let rest = in_turn_at (q.first_variable + own_count q) fs count t.1 i f is in let le = t.0 in omega arith
