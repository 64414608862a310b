-- Lines that give the addresses of labels, one after another.
use Rattle.std.proofs.Common.{◌≡◌, ℕ, zero, suc, ◌+◌, ◌<◌, ◌≤◌, min, Bool, true, false, eqb, List, [], ◌∷◌, ◌++◌, length, take, drop, get_or, set, Some, refl, ap, ap₂, sym, subst, ◌∙◌, inl, inr, arith}
use Rattle.std.specs.Prelude.{◌||◌, ◌≢◌, Ok, Err}
use Rattle.std.proofs.lemmas.Bool.{cases_lt, false≢true}
use Rattle.std.proofs.lemmas.Bool.Decides.{eqb_tells}
use Rattle.std.proofs.lemmas.List.{get_or-set_same, get_or-set_other, get_or-take, length-append, length-drop, length-take, length-take-le, take_all, ext_get_or}
use Rattle.object_hex.specs.declared.reading.faults.MapFault.{MapFault}
use Rattle.object_hex.specs.declared.reading.faults.MapError.TheVariants.{Fault, OutOfMemory}
use Rattle.object_hex.specs.Lines.{lines}
use Rattle.object_hex.specs.MapMeaning.{address_in, IsMapOf, IsMapText, IsFirstBadLine}
use Rattle.object_hex.specs.MapAnswer.{IsMapAnswer}
use Rattle.object_hex.proofs.Splits.{lines-nil, take-take-le}
use Rattle.object_hex.proofs.HexWalk.{next_line}

-- whether an address is among some
abbrev pub has : ℕ → List ℕ → Bool
has address [] = false
has address (first ∷ more) = eqb address first || has address more

has-at : (address : ℕ) (addresses : List ℕ) → has address addresses ≡ true → (k : ℕ) × (k < length addresses) × (get_or addresses k 0 ≡ address)
has-at address [] e = absurd (false≢true e)
has-at address (first ∷ more) e = elim (eqb_tells address first) [
  | inl same ↦ (0, omega arith, sym same.1)
  | inr other ↦
      let later : has address more ≡ true = sym (ap (λ b. b || has address more) other.0) ∙ e in
      let found = has-at address more later in
      (suc found.0, (let within = found.1 in omega arith), found.2)
]

has-not : (address : ℕ) (addresses : List ℕ) → has address addresses ≡ false → (k : ℕ) → k < length addresses → get_or addresses k 0 ≢ address
has-not address [] e k within = absurd (omega arith)
has-not address (first ∷ more) e k within = elim (eqb_tells address first) [
  | inl same ↦ absurd (false≢true (sym e ∙ ap (λ b. b || has address more) same.0))
  | inr other ↦ (
      let later : has address more ≡ false = sym (ap (λ b. b || has address more) other.0) ∙ e in
      elim k as (λ n. n < suc (length more) → get_or (first ∷ more) n 0 ≢ address) [
        | zero ↦ λ _ equal. other.1 (sym equal)
        | suc n ↦ λ below. has-not address more later n (omega arith)
      ] within)
]

has-push : (address : ℕ) (addresses : List ℕ) (new : ℕ) → has address (addresses ++ new ∷ []) ≡ (eqb address new || has address addresses)
has-push address [] new = refl
has-push address (first ∷ more) new = ap (λ b. eqb address first || b) (has-push address more new) ∙ swap (eqb address first) (eqb address new) (has address more)
  where
    swap : (a b c : Bool) → (a || (b || c)) ≡ (b || (a || c))
    swap true true c = refl
    swap true false c = refl
    swap false true c = refl
    swap false false c = refl

-- the marks of the addresses seen
abbrev pub Marked : List Bool → List ℕ → Type 0
Marked seen addresses = (address : ℕ) → address < 65536 → get_or seen address false ≡ has address addresses

marked_more : (seen new : List Bool) (addresses : List ℕ) (next : ℕ) → length seen ≡ 65536 → next < 65536 → Marked seen addresses → new ≡ set seen next true → Marked new (addresses ++ next ∷ [])
marked_more seen new addresses next whole small marked e address within = elim (eqb_tells address next) [
  | inl same ↦
      ap (λ all. get_or all address false) e ∙ ap (λ a. get_or (set seen next true) a false) same.1 ∙ get_or-set_same seen next true false (omega arith)
      ∙ sym (has-push address addresses next ∙ ap (λ b. b || has address addresses) same.0)
  | inr other ↦
      ap (λ all. get_or all address false) e ∙ get_or-set_other seen next address true false other.1 ∙ marked address within
      ∙ sym (has-push address addresses next ∙ ap (λ b. b || has address addresses) other.0)
]

-- a front of lines that give addresses gives a front of them
front_of : (ls : List (List ℕ)) (addresses : List ℕ) (n : ℕ) → IsMapOf ls addresses → IsMapOf (take n ls) (take n addresses)
front_of ls addresses n given =
    let lines_long = length-take n ls in
    let long = length-take n addresses in
    let count = given.count in
    record {
      count = long ∙ ap (min n) count ∙ sym lines_long;
      each = λ label within.
          ap (address_in label) (get_or-take n ls label [] (omega arith)) ∙ given.each label (omega arith) ∙ ap Some (sym (get_or-take n addresses label 0 (omega arith)));
      apart = λ earlier later before within equal. given.apart earlier later before (omega arith)
          (sym (get_or-take n addresses earlier 0 (omega arith)) ∙ equal ∙ get_or-take n addresses later 0 (omega arith));
    }

-- one more line that gives a new address
one_more : (ls : List (List ℕ)) (addresses : List ℕ) (line : List ℕ) (next : ℕ) → IsMapOf ls addresses → address_in (length ls) line ≡ Some next → has next addresses ≡ false → IsMapOf (ls ++ line ∷ []) (addresses ++ next ∷ [])
one_more ls addresses line next given here fresh =
    let lines_long = length-append ls (line ∷ []) in
    let long = length-append addresses (next ∷ []) in
    let count = given.count in
    record {
      count = omega arith;
      each = λ label within. elim (cases_lt label (length ls)) [
        | inl earlier ↦
            ap (address_in label) (front_at ls line [] label earlier) ∙ given.each label (omega arith) ∙ ap Some (sym (front_at addresses next 0 label (omega arith)))
        | inr last ↦
            let same : label ≡ length ls = omega arith in
            let also : label ≡ length addresses = omega arith in
            ap₂ address_in same (ap (λ k. get_or (ls ++ line ∷ []) k []) same ∙ last_at ls line []) ∙ here ∙ ap Some (sym (ap (λ k. get_or (addresses ++ next ∷ []) k 0) also ∙ last_at addresses next 0))
      ];
      apart = λ earlier later before within equal. elim (cases_lt later (length addresses)) [
        | inl old ↦ given.apart earlier later before old (sym (front_at addresses next 0 earlier (omega arith)) ∙ equal ∙ front_at addresses next 0 later old)
        | inr last ↦
            let also : later ≡ length addresses = omega arith in
            has-not next addresses fresh earlier (omega arith) (sym (front_at addresses next 0 earlier (omega arith)) ∙ equal ∙ ap (λ k. get_or (addresses ++ next ∷ []) k 0) also ∙ last_at addresses next 0)
      ];
    }
  where
    front_at : {A : Type 0} → (xs : List A) (x d : A) (k : ℕ) → k < length xs → get_or (xs ++ x ∷ []) k d ≡ get_or xs k d
    front_at [] x d k within = absurd (omega arith)
    front_at (y ∷ xs) x d zero within = refl
    front_at (y ∷ xs) x d (suc k) within = front_at xs x d k (omega arith)

    last_at : {A : Type 0} → (xs : List A) (x d : A) → get_or (xs ++ x ∷ []) (length xs) d ≡ x
    last_at [] x d = refl
    last_at (y ∷ xs) x d = last_at xs x d

-- no addresses are given where the last line gives none, or one of an earlier line
none_more : (ls : List (List ℕ)) (addresses : List ℕ) (line : List ℕ) → IsMapOf ls addresses → ((next : ℕ) → address_in (length ls) line ≡ Some next → has next addresses ≡ true) → (other : List ℕ) → IsMapOf (ls ++ line ∷ []) other → ⊥
none_more ls addresses line given old other also =
    let n = length ls in
    let long = length-append ls (line ∷ []) in
    let count = given.count in
    let all = also.count in
    let last = get_or other n 0 in
    let here : address_in n line ≡ Some last = ap (address_in n) (sym (last_line ls line)) ∙ also.each n (omega arith) in
    let found = has-at last addresses (old last here) in
    let k = found.0 in
    let within = found.1 in
    let twice : Some (get_or addresses k 0) ≡ Some (get_or other k 0) =
    sym (given.each k within) ∙ ap (address_in k) (sym (early_line ls line k (omega arith))) ∙ also.each k (omega arith) in
    let same : get_or addresses k 0 ≡ get_or other k 0 = cc in
    also.apart k n (omega arith) (omega arith) (sym same ∙ found.2)
  where
    early_line : (ls : List (List ℕ)) (line : List ℕ) (k : ℕ) → k < length ls → get_or (ls ++ line ∷ []) k [] ≡ get_or ls k []
    early_line [] line k within = absurd (omega arith)
    early_line (first ∷ more) line zero within = refl
    early_line (first ∷ more) line (suc k) within = early_line more line k (omega arith)

    last_line : (ls : List (List ℕ)) (line : List ℕ) → get_or (ls ++ line ∷ []) (length ls) [] ≡ line
    last_line [] line = refl
    last_line (first ∷ more) line = last_line more line

-- the lines up to a number give addresses, and the rest of the text holds the others
pub record MapWalked (text rest : List ℕ) (number : ℕ) (addresses : List ℕ) (seen : List Bool) : Type 0 where
  pub others : drop number (lines text) ≡ lines rest
  pub few : number + length rest ≤ length text
  pub inside : number ≤ length (lines text)
  pub given : IsMapOf (take number (lines text)) addresses
  pub marked : Marked seen addresses

pub map_walked_none : (text : List ℕ) (seen : List Bool) → ((place : ℕ) → place < 65536 → get_or seen place false ≡ false) → MapWalked text text 0 [] seen
map_walked_none text seen none = record {
  others = refl;
  few = omega arith;
  inside = omega arith;
  given = record { count = refl; each = λ label within. absurd (omega arith); apart = λ earlier later before within. absurd (omega arith) };
  marked = none;
}

read_lines : (text rest line : List ℕ) (others : List (List ℕ)) (number : ℕ) → drop number (lines text) ≡ line ∷ others → suc number ≤ length (lines text)
read_lines text rest line others number e = let left = length-drop number (lines text) in let long : length (drop number (lines text)) ≡ suc (length others) = ap length e in omega arith

pub map_walked_more : (text rest behind line : List ℕ) (number next : ℕ) (addresses : List ℕ) (seen new : List Bool) → MapWalked text rest number addresses seen → lines rest ≡ line ∷ lines behind → length behind < length rest → length seen ≡ 65536
    → next < 65536 → address_in number line ≡ Some next → get_or seen next false ≡ false → new ≡ set seen next true
    → MapWalked text behind (number + 1) (addresses ++ next ∷ []) new
map_walked_more text rest behind line number next addresses seen new walked split shorter whole small here fresh marks =
    let following = next_line (lines text) number line (lines behind) (walked.others ∙ split) in
    let one : number + 1 ≡ suc number = omega arith in
    let more = read_lines text rest line (lines behind) number (walked.others ∙ split) in
    let long : length (take number (lines text)) ≡ number = length-take-le number (lines text) walked.inside in
    let at : address_in (length (take number (lines text))) line ≡ Some next = ap (λ n. address_in n line) long ∙ here in
    let few = walked.few in
    let Given : List (List ℕ) → Type 0 = λ ls. IsMapOf ls (addresses ++ next ∷ []) in
    record {
      others = ap (λ n. drop n (lines text)) one ∙ following.left;
      few = omega arith;
      inside = omega arith;
      given = subst Given (sym (ap (λ n. take n (lines text)) one ∙ following.taken)) (one_more (take number (lines text)) addresses line next walked.given at (sym (walked.marked next small) ∙ fresh));
      marked = marked_more seen new addresses next whole small walked.marked marks;
    }

pub map_walked_bad : (text rest behind line : List ℕ) (number : ℕ) (addresses : List ℕ) (seen : List Bool) → MapWalked text rest number addresses seen → lines rest ≡ line ∷ lines behind
    → ((next : ℕ) → address_in number line ≡ Some next → (next < 65536) × (get_or seen next false ≡ true)) → IsFirstBadLine text (record { line = number + 1 })
map_walked_bad text rest behind line number addresses seen walked split old =
    let following = next_line (lines text) number line (lines behind) (walked.others ∙ split) in
    let one : number + 1 ≡ suc number = omega arith in
    let more = read_lines text rest line (lines behind) number (walked.others ∙ split) in
    let long : length (take number (lines text)) ≡ number = length-take-le number (lines text) walked.inside in
    record {
      place = number;
      line = refl;
      within = omega arith;
      before = addresses;
      right_before = walked.given;
      bad = λ other also.
          let Also : List (List ℕ) → Type 0 = λ ls. IsMapOf ls other in
          none_more (take number (lines text)) addresses line walked.given
          (λ next at. let seen_once = old next (ap (λ n. address_in n line) (sym long) ∙ at) in sym (walked.marked next seen_once.0) ∙ seen_once.1)
          other (subst Also (ap (λ n. take n (lines text)) one ∙ following.taken) also);
    }

pub map_walked_all : (text rest : List ℕ) (number : ℕ) (addresses : List ℕ) (seen : List Bool) → MapWalked text rest number addresses seen → rest ≡ [] → IsMapText text addresses
map_walked_all text rest number addresses seen walked none =
    let left : length (drop number (lines text)) ≡ 0 = ap length (walked.others ∙ ap lines none ∙ lines-nil) in
    let rest_of = length-drop number (lines text) in
    let Given : List (List ℕ) → Type 0 = λ ls. IsMapOf ls addresses in
    subst Given (take_all number (lines text) (omega arith)) walked.given

-- a text gives addresses, or has a first bad line, and not both
bad_in_front : (text addresses : List ℕ) (first : MapFault) (n : ℕ) (faulty : IsFirstBadLine text first) → faulty.place < n → IsMapOf (take n (lines text)) addresses → ⊥
bad_in_front text addresses first n faulty within given =
    let front = front_of (take n (lines text)) addresses (faulty.place + 1) given in
    let Given : List (List ℕ) → Type 0 = λ ls. IsMapOf ls (take (faulty.place + 1) addresses) in
    faulty.bad (take (faulty.place + 1) addresses) (subst Given (take-take-le (faulty.place + 1) n (lines text) (omega arith)) front)

not_both : (text addresses : List ℕ) (first : MapFault) → IsMapText text addresses → IsFirstBadLine text first → ⊥
not_both text addresses first means faulty =
    let Given : List (List ℕ) → Type 0 = λ ls. IsMapOf ls addresses in
    bad_in_front text addresses first (length (lines text)) faulty faulty.within (subst Given (sym (take_all (length (lines text)) (lines text) (omega arith))) means)

one_fault : (text : List ℕ) (a b : MapFault) → IsFirstBadLine text a → IsFirstBadLine text b → a ≡ b
one_fault text a b of_a of_b = elim (cases_lt of_a.place of_b.place) [
  | inl earlier ↦ absurd (bad_in_front text of_b.before a of_b.place of_a earlier of_b.right_before)
  | inr later ↦ elim (cases_lt of_b.place of_a.place) [
    | inl earlier ↦ absurd (bad_in_front text of_a.before b of_a.place of_b earlier of_a.right_before)
    | inr same ↦
        let place : of_a.place ≡ of_b.place = omega arith in
        let line : a.line ≡ b.line = of_a.line ∙ ap (λ p. p + 1) place ∙ sym of_b.line in
        ap (λ (l : ℕ). record { line = l }) line
  ]
]

one_map : (text xs ys : List ℕ) → IsMapText text xs → IsMapText text ys → xs ≡ ys
one_map text xs ys of_xs of_ys =
    let long = of_xs.count in
    let also = of_ys.count in
    ext_get_or 0 xs ys (omega arith) (λ k within.
    let each : Some (get_or xs k 0) ≡ Some (get_or ys k 0) = sym (of_xs.each k within) ∙ of_ys.each k (omega arith) in
    let same : get_or xs k 0 ≡ get_or ys k 0 = cc in
    same)

pub map_answer_right : (text addresses : List ℕ) → IsMapText text addresses → IsMapAnswer text (Ok addresses)
map_answer_right text addresses means = record {
  right = means;
  fault = λ first e. absurd (cc);
  accepts = λ other also. inl (ap Ok (one_map text addresses other means also));
  refuses = λ first faulty. absurd (not_both text addresses first means faulty);
}

pub map_answer_fault : (text : List ℕ) (found : MapFault) → IsFirstBadLine text found → IsMapAnswer text (Err (Fault found))
map_answer_fault text found faulty = record {
  right = tt;
  fault = λ first e. let same : found ≡ first = cc in let First : MapFault → Type 0 = λ f. IsFirstBadLine text f in subst First same faulty;
  accepts = λ addresses means. absurd (not_both text addresses found means faulty);
  refuses = λ first also. inl (ap (λ f. Err (Fault f)) (one_fault text found first faulty also));
}

pub map_answer_memory : (text : List ℕ) → IsMapAnswer text (Err OutOfMemory)
map_answer_memory text = record {
  right = tt;
  fault = λ first e. absurd (cc);
  accepts = λ addresses means. inr refl;
  refuses = λ first faulty. inr refl;
}
