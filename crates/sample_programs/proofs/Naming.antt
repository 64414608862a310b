-- The names of the generator's programs are right.
use Rattle.std.proofs.Common.{◌≡◌, ℕ, zero, suc, ◌*◌, ◌<◌, ◌≤◌, ◌⊎◌, List, [], ◌∷◌, ◌++◌, length, map, get_or, decimal, codes, cond, Option, Some, None, refl, sym, ap, ap₂, subst, ◌∙◌, inl, inr, arith, append_assoc, append-nil}
use Rattle.std.specs.Prelude.{Bool, true, false, ◌||◌, ◌&&◌, not, nat_eq, nat_lt}
use Rattle.std.specs.List.{list_any}
use Rattle.std.specs.Str.{bytes_eq}
use Rattle.std.proofs.lemmas.Bool.{cases_lt, cond-true, cond-false, ne_eqb, eq-eqb, or_from, or_left, or_right, and_left, and_right, and_from, le-ltb}
use Rattle.std.proofs.lemmas.Fmt.{length-decimal-le}
use Rattle.std.proofs.lemmas.List.{map-append}
use Rattle.clight_source.specs.declared.span.Span.{Span}
use Rattle.clight_source.specs.declared.tree.Name.{Name}
use Rattle.clight_source.specs.Trees as tree
use Rattle.cerco_base.specs.declared.reasons.NameKind.{NameKind}
use Rattle.cerco_base.specs.declared.reasons.NameKind.TheVariants.{Main}
use Rattle.clight_names.specs.Spellings.{spelling_number, main_name}
use Rattle.clight_names.specs.Occurrences.{occurs, names_from, item_names, stmts_names}
use Rattle.clight_names.specs.Regions.{has_name, declares, declares_more, defines, is_declared}
use Rattle.clight_names.specs.NameFaults.{spelled, is_reserved, is_long, name_kind, first_wrong, first_name_fault, NameFault, or_else}
use Rattle.clight_names.specs.declared.occurrences.Role.TheVariants as r
use Rattle.clight_names.specs.declared.occurrences.Occurrence.{Occurrence}
use Rattle.clight_names.specs.declared.regions.Region.{Region}
use Rattle.clight_names.specs.declared.regions.Region.TheVariants.{WholeFile, Within}
use Rattle.clight_typing.specs.Sources.{function_source, stmts_source}
use Rattle.sample_texts.specs.declared.draws.Numbers.{Numbers}
use Rattle.sample_texts.specs.Texts.{each_below}
use Rattle.sample_programs.proofs.Families.{each}
use Rattle.sample_programs.proofs.Trees.{own_name, own_text, all_names, name, main_number, value_number, Labels, Places, main_body, last_function}
use Rattle.sample_programs.proofs.Numbering.{own_apart, own_not_main}
use Rattle.sample_programs.proofs.Spellings.{entry-own, entry-main, entry-value, length-names}
use Rattle.sample_programs.proofs.Sources.{source_function, source_items}

-- ---- lists of names

any-append : (p : Occurrence → Bool) (xs ys : List Occurrence) → list_any p (xs ++ ys) ≡ (list_any p xs || list_any p ys)
any-append p [] ys = refl
any-append p (x ∷ xs) ys = ap (λ v. p x || v) (any-append p xs ys) ∙ assoc (p x) (list_any p xs) (list_any p ys)
  where
    assoc : (a b c : Bool) → (a || (b || c)) ≡ ((a || b) || c)
    assoc true b c = refl
    assoc false b c = refl

has-before : (p : Occurrence → Bool) (xs ys : List Occurrence) → list_any p xs ≡ true → list_any p (xs ++ ys) ≡ true
has-before p xs ys h = any-append p xs ys ∙ or_left _ _ h

has-after : (p : Occurrence → Bool) (xs ys : List Occurrence) → list_any p ys ≡ true → list_any p (xs ++ ys) ≡ true
has-after p xs ys h = any-append p xs ys ∙ or_right _ _ h

has-none : (p : Occurrence → Bool) (xs ys : List Occurrence) → list_any p xs ≡ false → list_any p ys ≡ false → list_any p (xs ++ ys) ≡ false
has-none p xs ys h g = any-append p xs ys ∙ or_from _ _ h g

-- ---- names that are right where they stand

-- each of them is right behind those before it
abbrev AreRight : List (List ℕ) → (all earlier rest : List Occurrence) → Type 0
AreRight names all earlier [] = Unit {0}
AreRight names all earlier (x ∷ rest) = (name_kind names all earlier x ≡ None) × AreRight names all (earlier ++ x ∷ []) rest

none-wrong : (names : List (List ℕ)) (all earlier rest more : List Occurrence) → AreRight names all earlier rest → first_wrong names all earlier (rest ++ more) ≡ first_wrong names all (earlier ++ rest) more
none-wrong names all earlier [] more h = ap (λ l. first_wrong names all l more) (sym (append-nil earlier))
none-wrong names all earlier (x ∷ rest) more h =
    ap (by earlier x (rest ++ more)) h.0 ∙ (none-wrong names all (earlier ++ x ∷ []) rest more h.1 ∙ ap (λ l. first_wrong names all l more) (append_assoc earlier (x ∷ []) rest))
  where
    by : List Occurrence → Occurrence → List Occurrence → Option NameKind → Option NameFault
    by earlier x rest (Some kind) = Some (record { at = x.name.span.from; kind = kind })
    by earlier x rest None = first_wrong names all (earlier ++ x ∷ []) rest

-- a short name that isn't reserved
record IsPlain (names : List (List ℕ)) (number : ℕ) : Type 0 where
  pub free : is_reserved (spelled names number) ≡ false
  pub short : is_long (spelled names number) ≡ false

-- a use of a name that is declared there
use-right : (names : List (List ℕ)) (all earlier : List Occurrence) (name : Name) (item : ℕ) → IsPlain names name.number → (is_declared (Within item) earlier name.number ≡ true) ⊎ (is_declared WholeFile earlier name.number ≡ true) → name_kind names all earlier (occurs name (r.Uses item)) ≡ None
use-right names all earlier name item plain (inl h) = rw (plain.free, plain.short, h) refl
use-right names all earlier name item plain (inr h) = by (is_declared (Within item) earlier name.number)
  where
    unknown : (v : Bool) → (not v && not (is_declared WholeFile earlier name.number)) ≡ false
    unknown true = refl
    unknown false = ap not h

    by : Bool → name_kind names all earlier (occurs name (r.Uses item)) ≡ None
    by v = rw (plain.free, plain.short, unknown (is_declared (Within item) earlier name.number)) refl

local-right : (names : List (List ℕ)) (all earlier : List Occurrence) (name : Name) (item : ℕ) → IsPlain names name.number → has_name (declares (Within item)) earlier name.number ≡ false → name_kind names all earlier (occurs name (r.DeclaresLocal item)) ≡ None
local-right names all earlier name item plain h = rw (plain.free, plain.short, h) refl

definition-right : (names : List (List ℕ)) (all earlier : List Occurrence) (name : Name) → IsPlain names name.number → has_name (declares_more WholeFile) earlier name.number ≡ false → nat_eq name.number (main_name names) ≡ false → name_kind names all earlier (occurs name (r.DefinesFunction false)) ≡ None
definition-right names all earlier name plain h m = rw (plain.free, plain.short, h, m) refl

main-right : (names : List (List ℕ)) (all earlier : List Occurrence) (name : Name) → IsPlain names name.number → has_name (declares_more WholeFile) earlier name.number ≡ false → name_kind names all earlier (occurs name (r.DefinesFunction true)) ≡ None
main-right names all earlier name plain h = rw (plain.free, plain.short, h) refl

-- ---- the names of the spellings

short-own : (f : ℕ) → f ≤ 64 → nat_lt 63 (length (own_text f)) ≡ false
short-own f h = let l = length-decimal-le 2 f (omega arith) (omega arith) (omega arith) in le-ltb 63 (length (own_text f)) (omega arith)

plain-text : (names : List (List ℕ)) (number : ℕ) (t : List ℕ) → get_or names number [] ≡ t → is_reserved t ≡ false → is_long t ≡ false → IsPlain names number
plain-text names number t e f g = record { free = ap is_reserved e ∙ f; short = ap is_long e ∙ g }

reserved-own : (f : ℕ) → is_reserved (own_text f) ≡ false
reserved-own f = by (decimal f)
  where
    by : (ds : List ℕ) → is_reserved (102 ∷ ds) ≡ false
    by [] = refl
    by (d ∷ ds) = refl

plain-own : (k f : ℕ) → k ≤ 63 → f < suc k → IsPlain (all_names (suc k)) (own_name f)
plain-own k f small h = plain-text (all_names (suc k)) (own_name f) (own_text f) (entry-own k f h) (reserved-own f) (short-own f (omega arith))

plain-a : (k : ℕ) → IsPlain (all_names (suc k)) 1
plain-a k = record { free = refl; short = refl }

plain-b : (k : ℕ) → IsPlain (all_names (suc k)) 2
plain-b k = record { free = refl; short = refl }

plain-i : (k : ℕ) → IsPlain (all_names (suc k)) 3
plain-i k = record { free = refl; short = refl }

plain-main : (k : ℕ) → IsPlain (all_names (suc k)) (main_number (suc k))
plain-main k = plain-text (all_names (suc k)) (main_number (suc k)) (codes "main") (entry-main k) refl refl

plain-value : (k : ℕ) → IsPlain (all_names (suc k)) (value_number (suc k))
plain-value k = plain-text (all_names (suc k)) (value_number (suc k)) (codes "x") (entry-value k) refl refl

-- the number of `main`
spelling-at : (names : List (List ℕ)) (t : List ℕ) (k : ℕ) → k < length names → ((j : ℕ) → j < k → bytes_eq (get_or names j []) t ≡ false) → bytes_eq (get_or names k []) t ≡ true → spelling_number names t ≡ k
spelling-at [] t k h before here = absurd (omega arith)
spelling-at (x ∷ names) t zero h before here = cond-true (bytes_eq x t) 0 (suc (spelling_number names t)) here
spelling-at (x ∷ names) t (suc k) h before here =
    cond-false (bytes_eq x t) 0 (suc (spelling_number names t)) (before zero (omega arith))
    ∙ ap suc (spelling-at names t k (omega arith) (λ j g. before (suc j) (omega arith)) here)

pub main-is : (k : ℕ) → main_name (all_names (suc k)) ≡ main_number (suc k)
main-is k =
    let l = length-names k in
    spelling-at (all_names (suc k)) (codes "main") (main_number (suc k)) (omega arith) before (ap (λ t. bytes_eq t (codes "main")) (entry-main k))
  where
    before : (j : ℕ) → j < main_number (suc k) → bytes_eq (get_or (all_names (suc k)) j []) (codes "main") ≡ false
    before zero h = refl
    before (suc zero) h = refl
    before (suc (suc zero)) h = refl
    before (suc (suc (suc zero))) h = refl
    before (suc (suc (suc (suc j)))) h = ap (λ t. bytes_eq t (codes "main")) (entry-own k (suc j) (omega arith))

-- ---- the names of functions

abbrev function_names_of : {L : Type 0} → Labels L → Places → (ℕ → Numbers) → ℕ → List Occurrence
function_names_of l p numbers f = item_names f (source_function l p numbers f)

-- none of these names is declared in a region
abbrev DeclareNot : Region → List Occurrence → Type 0
DeclareNot region [] = Unit {0}
DeclareNot region (x ∷ rest) = (declares region x ≡ false) × DeclareNot region rest

not-declared : (region : Region) (xs : List Occurrence) (n : ℕ) → DeclareNot region xs → has_name (declares region) xs n ≡ false
not-declared region [] n h = refl
not-declared region (x ∷ xs) n h = or_from _ _ (and_right (nat_eq x.name.number n) (declares region x) h.0) (not-declared region xs n h.1)

-- no name of an earlier function is declared within a later one
function-within : {L : Type 0} (l : Labels L) (p : Places) (numbers : ℕ → Numbers) (f g n : ℕ) → f < g → has_name (declares (Within g)) (function_names_of l p numbers f) n ≡ false
function-within l p numbers f g n h =
    let e : nat_eq f g ≡ false = ne_eqb f g (λ e. absurd (omega arith)) in
    not-declared (Within g) (function_names_of l p numbers f) n (refl, (e, (e, (e, (refl, (refl, (refl, (refl, (refl, (refl, (refl, (refl, (refl, (refl, (refl, (refl, tt))))))))))))))))

fresh-within : {L : Type 0} (l : Labels L) (p : Places) (numbers : ℕ → Numbers) (m g n : ℕ) → m ≤ g → has_name (declares (Within g)) (each_below (function_names_of l p numbers) m) n ≡ false
fresh-within l p numbers zero g n h = refl
fresh-within l p numbers (suc m) g n h =
    has-none _ (each_below (function_names_of l p numbers) m) (function_names_of l p numbers m) (fresh-within l p numbers m g n (omega arith)) (function-within l p numbers m g n (omega arith))

-- none of these names declares more than a prototype in the file's scope under this number
abbrev DeclareNotInFile : ℕ → List Occurrence → Type 0
DeclareNotInFile n [] = Unit {0}
DeclareNotInFile n (x ∷ rest) = ((nat_eq x.name.number n && declares_more WholeFile x) ≡ false) × DeclareNotInFile n rest

not-in-file : (n : ℕ) (xs : List Occurrence) → DeclareNotInFile n xs → has_name (declares_more WholeFile) xs n ≡ false
not-in-file n [] h = refl
not-in-file n (x ∷ xs) h = or_from _ _ h.0 (not-in-file n xs h.1)

no : (v : Bool) → (v && false) ≡ false
no v = and_right v false refl

-- the name of a function is its only one in the file's scope
function-file : {L : Type 0} (l : Labels L) (p : Places) (numbers : ℕ → Numbers) (f n : ℕ) → (own_name f ≡ n → ⊥) → has_name (declares_more WholeFile) (function_names_of l p numbers f) n ≡ false
function-file l p numbers f n apart =
    not-in-file n (function_names_of l p numbers f)
    (and_left (nat_eq (own_name f) n) true (ne_eqb (own_name f) n apart), (no (nat_eq 1 n), (no (nat_eq 2 n), (no (nat_eq 3 n), (no (nat_eq 2 n), (no (nat_eq 1 n), (no (nat_eq 3 n), (no (nat_eq 3 n), (no (nat_eq 2 n), (no (nat_eq 2 n), (no (nat_eq 2 n), (no (nat_eq 2 n), (no (nat_eq 2 n), (no (nat_eq 3 n), (no (nat_eq 3 n), (no (nat_eq 2 n), tt))))))))))))))))

fresh-file : {L : Type 0} (l : Labels L) (p : Places) (numbers : ℕ → Numbers) (m n : ℕ) → ((f : ℕ) → f < m → own_name f ≡ n → ⊥) → has_name (declares_more WholeFile) (each_below (function_names_of l p numbers) m) n ≡ false
fresh-file l p numbers zero n apart = refl
fresh-file l p numbers (suc m) n apart =
    has-none _ (each_below (function_names_of l p numbers) m) (function_names_of l p numbers m) (fresh-file l p numbers m n (λ f h. apart f (omega arith))) (function-file l p numbers m n (apart m (omega arith)))

here : (n : ℕ) → nat_eq n n ≡ true
here n = eq-eqb n n refl

-- a function is declared behind its definition
function-declared : {L : Type 0} (l : Labels L) (p : Places) (numbers : ℕ → Numbers) (m f : ℕ) → f < m → is_declared WholeFile (each_below (function_names_of l p numbers) m) (own_name f) ≡ true
function-declared l p numbers zero f h = absurd (omega arith)
function-declared l p numbers (suc m) f h =
    elim (cases_lt f m) [
      | inl lt ↦ has-before _ (each_below (function_names_of l p numbers) m) (function_names_of l p numbers m) (function-declared l p numbers m f lt)
      | inr le ↦
          let same : m ≡ f = omega arith in
          has-after _ (each_below (function_names_of l p numbers) m) (function_names_of l p numbers m)
          (or_left _ _ (subst (λ g. (nat_eq (own_name m) (own_name g) && true) ≡ true) same (or-true (nat_eq (own_name m) (own_name m)) (here (own_name m)))))
    ]
  where
    or-true : (v : Bool) → v ≡ true → (v && true) ≡ true
    or-true true e = refl
    or-true false e = cc

-- names that are declared in an item or in the file
abbrev IsKnown : (item : ℕ) → List Occurrence → ℕ → Type 0
IsKnown item earlier n = (is_declared (Within item) earlier n ≡ true) ⊎ (is_declared WholeFile earlier n ≡ true)

still-known : (item : ℕ) (earlier more : List Occurrence) (n : ℕ) → IsKnown item earlier n → IsKnown item (earlier ++ more) n
still-known item earlier more n (inl h) = inl (has-before (λ x. nat_eq x.name.number n && declares (Within item) x) earlier more h)
still-known item earlier more n (inr h) = inr (has-before (λ x. nat_eq x.name.number n && declares WholeFile x) earlier more h)

abbrev AllKnown : List (List ℕ) → (item : ℕ) → List Occurrence → List Name → Type 0
AllKnown names item earlier [] = Unit {0}
AllKnown names item earlier (x ∷ xs) = IsPlain names x.number × IsKnown item earlier x.number × AllKnown names item earlier xs

still-all : (names : List (List ℕ)) (item : ℕ) (earlier more : List Occurrence) (xs : List Name) → AllKnown names item earlier xs → AllKnown names item (earlier ++ more) xs
still-all names item earlier more [] h = tt
still-all names item earlier more (x ∷ xs) h = (h.0, still-known item earlier more x.number h.1, still-all names item earlier more xs h.2)

abbrev uses : (item : ℕ) → List Name → List Occurrence
uses item xs = map (λ x. occurs x (r.Uses item)) xs

uses-right : (names : List (List ℕ)) (all : List Occurrence) (item : ℕ) (earlier : List Occurrence) (xs : List Name) → AllKnown names item earlier xs → AreRight names all earlier (uses item xs)
uses-right names all item earlier [] h = tt
uses-right names all item earlier (x ∷ xs) h =
    (use-right names all earlier x item h.0 h.1, uses-right names all item (earlier ++ occurs x (r.Uses item) ∷ []) xs (still-all names item earlier (occurs x (r.Uses item) ∷ []) xs h.2))

right-append : (names : List (List ℕ)) (all earlier xs ys : List Occurrence) → AreRight names all earlier xs → AreRight names all (earlier ++ xs) ys → AreRight names all earlier (xs ++ ys)
right-append names all earlier [] ys h g = subst (λ e. AreRight names all e ys) (append-nil earlier) g
right-append names all earlier (x ∷ xs) ys h g =
    (h.0, right-append names all (earlier ++ x ∷ []) xs ys h.1 (subst (λ e. AreRight names all e ys) (sym (append_assoc earlier (x ∷ []) xs)) g))

-- ---- a function is right behind others

local-there : (item : ℕ) (earlier : List Occurrence) (x : Name) (more : List Occurrence) → is_declared (Within item) (earlier ++ (occurs x (r.DeclaresLocal item) ∷ more)) x.number ≡ true
local-there item earlier x more =
    has-after (λ y. nat_eq y.name.number x.number && declares (Within item) y) earlier (occurs x (r.DeclaresLocal item) ∷ more)
    (or_left (nat_eq x.number x.number && nat_eq item item) (has_name (declares (Within item)) more x.number) (and_from (nat_eq x.number x.number) (nat_eq item item) (here x.number) (here item)))

-- a function: its name, three locals and uses of them
abbrev function_list : (item : ℕ) → (f a b i : Name) → List Name → List Occurrence
function_list item f a b i xs = occurs f (r.DefinesFunction false) ∷ occurs a (r.DeclaresLocal item) ∷ occurs b (r.DeclaresLocal item) ∷ occurs i (r.DeclaresLocal item) ∷ uses item xs

abbrev names_used : (ℕ → Span) → List Name
names_used at =
    name 2 (at 17) ∷ name 1 (at 19) ∷ name 3 (at 21) ∷ name 3 (at 27) ∷ name 2 (at 32) ∷ name 2 (at 34) ∷ name 2 (at 42) ∷ name 2 (at 46) ∷ name 2 (at 48) ∷ name 3 (at 52) ∷ name 3 (at 54) ∷ name 2 (at 60) ∷ []

function-names : {L : Type 0} (l : Labels L) (p : Places) (numbers : ℕ → Numbers) (f : ℕ) → function_names_of l p numbers f ≡ function_list f (name (own_name f) (p.of_function f 2)) (name 1 (p.of_function f 6)) (name 2 (p.of_function f 11)) (name 3 (p.of_function f 15)) (names_used (p.of_function f))
function-names l p numbers f = refl

-- the lists that grow by a name
abbrev one_more : List Occurrence → Name → ℕ → List Occurrence
one_more earlier n f = earlier ++ occurs n (r.DefinesFunction false) ∷ []

abbrev local_more : List Occurrence → Name → ℕ → List Occurrence
local_more earlier n f = earlier ++ occurs n (r.DeclaresLocal f) ∷ []

fresh-definition : (f : ℕ) (earlier : List Occurrence) (n : Name) (m : ℕ) → has_name (declares (Within f)) earlier m ≡ false → has_name (declares (Within f)) (one_more earlier n f) m ≡ false
fresh-definition f earlier n m h = has-none _ earlier (occurs n (r.DefinesFunction false) ∷ []) h (or_from _ false (no (nat_eq n.number m)) refl)

fresh-local : (f : ℕ) (earlier : List Occurrence) (n : Name) (m : ℕ) → (n.number ≡ m → ⊥) → has_name (declares (Within f)) earlier m ≡ false → has_name (declares (Within f)) (local_more earlier n f) m ≡ false
fresh-local f earlier n m apart h = has-none _ earlier (occurs n (r.DeclaresLocal f) ∷ []) h (or_from _ false (and_left _ _ (ne_eqb n.number m apart)) refl)

local-known : (f : ℕ) (earlier : List Occurrence) (n : Name) → is_declared (Within f) (local_more earlier n f) n.number ≡ true
local-known f earlier n = local-there f earlier n []

known-more : (f : ℕ) (earlier : List Occurrence) (n : Name) (m : ℕ) → is_declared (Within f) earlier m ≡ true → is_declared (Within f) (local_more earlier n f) m ≡ true
known-more f earlier n m h = has-before (λ y. nat_eq y.name.number m && declares (Within f) y) earlier (occurs n (r.DeclaresLocal f) ∷ []) h

function-right : (k f : ℕ) (all earlier : List Occurrence) (at : ℕ → Span) → k ≤ 63 → f < suc k → has_name (declares_more WholeFile) earlier (own_name f) ≡ false → ((m : ℕ) → has_name (declares (Within f)) earlier m ≡ false) → AreRight (all_names (suc k)) all earlier (function_list f (name (own_name f) (at 2)) (name 1 (at 6)) (name 2 (at 11)) (name 3 (at 15)) (names_used at))
function-right k f all earlier at small h new fresh =
    let names : List (List ℕ) = all_names (suc k) in
    let n : Name = name (own_name f) (at 2) in
    let a : Name = name 1 (at 6) in
    let b : Name = name 2 (at 11) in
    let i : Name = name 3 (at 15) in
    let one : List Occurrence = one_more earlier n f in
    let two : List Occurrence = local_more one a f in
    let three : List Occurrence = local_more two b f in
    let four : List Occurrence = local_more three i f in
    let f1 = λ (m : ℕ). fresh-definition f earlier n m (fresh m) in
    let f2 = fresh-local f one a 2 (λ e. absurd (omega arith)) (f1 2) in
    let f3 = fresh-local f two b 3 (λ e. absurd (omega arith)) (fresh-local f one a 3 (λ e. absurd (omega arith)) (f1 3)) in
    let ka : is_declared (Within f) four 1 ≡ true = known-more f three i 1 (known-more f two b 1 (local-known f one a)) in
    let kb : is_declared (Within f) four 2 ≡ true = known-more f three i 2 (local-known f two b) in
    let ki : is_declared (Within f) four 3 ≡ true = local-known f three i in
    let pa = plain-a k in
    let pb = plain-b k in
    let pi = plain-i k in (
      definition-right names all earlier n (plain-own k f small h) new (ne_eqb (own_name f) (main_name names) (λ e. own_not_main f (suc k) h (e ∙ main-is k))),
      (
        local-right names all one a f pa (f1 1),
        (
          local-right names all two b f pb f2,
          (
            local-right names all three i f pi f3,
            uses-right names all f four (names_used at)
                (pb, inl kb, (pa, inl ka, (pi, inl ki, (pi, inl ki, (pb, inl kb, (pb, inl kb, (pb, inl kb, (pb, inl kb, (pb, inl kb, (pi, inl ki, (pi, inl ki, (pb, inl kb, tt)))))))))))),
          ),
        ),
      ),
    )

functions-right : {L : Type 0} (l : Labels L) (p : Places) (numbers : ℕ → Numbers) (k : ℕ) (all : List Occurrence) → k ≤ 63 → (m : ℕ) → m ≤ suc k → AreRight (all_names (suc k)) all [] (each_below (function_names_of l p numbers) m)
functions-right l p numbers k all small zero h = tt
functions-right l p numbers k all small (suc m) h =
    right-append (all_names (suc k)) all [] (each_below (function_names_of l p numbers) m) (function_names_of l p numbers m) (functions-right l p numbers k all small m (omega arith))
    (function-right k m all (each_below (function_names_of l p numbers) m) (p.of_function m) small (omega arith) (fresh-file l p numbers m (own_name m) (λ f g. own_apart f m g)) (λ n. fresh-within l p numbers m m n (omega arith)))

-- ---- `main` is right behind all functions

all-known-append : (names : List (List ℕ)) (item : ℕ) (earlier : List Occurrence) (xs ys : List Name) → AllKnown names item earlier xs → AllKnown names item earlier ys → AllKnown names item earlier (xs ++ ys)
all-known-append names item earlier [] ys h g = g
all-known-append names item earlier (x ∷ xs) ys h g = (h.0, h.1, all-known-append names item earlier xs ys h.2 g)

abbrev main_uses : (at : ℕ → Span) → (ℕ → ℕ → Span) → (n : ℕ) → ℕ → List Name
main_uses at call_at n zero = name n (at 10) ∷ []
main_uses at call_at n (suc k) = main_uses at call_at n k ++ (name n (call_at k 0) ∷ name (own_name k) (call_at k 2) ∷ name n (call_at k 4) ∷ name n (call_at k 9) ∷ [])

main-uses : {L : Type 0} (item : ℕ) (back : ℕ → L) (at : ℕ → Span) (call_at : ℕ → ℕ → Span) (start n v k : ℕ) → stmts_names item (stmts_source (main_body back at call_at start n v k)) ≡ uses item (main_uses at call_at n k)
main-uses item back at call_at start n v zero = refl
main-uses item back at call_at start n v (suc k) =
    let one : List Name = name n (call_at k 0) ∷ name (own_name k) (call_at k 2) ∷ name n (call_at k 4) ∷ [] in
    let two : List Name = name n (call_at k 9) ∷ [] in
    ap (λ (xs : List Occurrence). (xs ++ uses item one) ++ uses item two) (main-uses item back at call_at start n v k)
    ∙ (append_assoc (uses item (main_uses at call_at n k)) (uses item one) (uses item two) ∙ sym (map-append (λ (x : Name). occurs x (r.Uses item)) (main_uses at call_at n k) (one ++ two)))

main-known : (k item : ℕ) (earlier : List Occurrence) (at : ℕ → Span) (call_at : ℕ → ℕ → Span) → k ≤ 63 → is_declared (Within item) earlier (value_number (suc k)) ≡ true → ((f : ℕ) → f < suc k → is_declared WholeFile earlier (own_name f) ≡ true) → (m : ℕ) → m ≤ suc k → AllKnown (all_names (suc k)) item earlier (main_uses at call_at (value_number (suc k)) m)
main-known k item earlier at call_at small x functions zero h = (plain-value k, inl x, tt)
main-known k item earlier at call_at small x functions (suc m) h =
    all-known-append (all_names (suc k)) item earlier (main_uses at call_at (value_number (suc k)) m) _ (main-known k item earlier at call_at small x functions m (omega arith))
    (plain-value k, inl x, (plain-own k m small (omega arith), inr (functions m (omega arith)), (plain-value k, inl x, (plain-value k, inl x, tt))))

abbrev main_list : (item : ℕ) → (m x : Name) → List Name → List Occurrence
main_list item m x xs = occurs m (r.DefinesFunction true) ∷ occurs x (r.DeclaresLocal item) ∷ uses item xs

main-list-right : {L : Type 0} (l : Labels L) (p : Places) (numbers : ℕ → Numbers) (k : ℕ) (all : List Occurrence) → k ≤ 63 → AreRight (all_names (suc k)) all (each_below (function_names_of l p numbers) (suc k)) (main_list (suc k) (name (main_number (suc k)) (p.of_main 1)) (name (value_number (suc k)) (p.of_main 8)) (main_uses p.of_main p.of_call (value_number (suc k)) (suc k)))
main-list-right l p numbers k all small =
    let names : List (List ℕ) = all_names (suc k) in
    let item : ℕ = suc k in
    let earlier : List Occurrence = each_below (function_names_of l p numbers) (suc k) in
    let m : Name = name (main_number (suc k)) (p.of_main 1) in
    let x : Name = name (value_number (suc k)) (p.of_main 8) in
    let one : List Occurrence = earlier ++ occurs m (r.DefinesFunction true) ∷ [] in
    let two : List Occurrence = local_more one x item in
    let fresh : has_name (declares (Within item)) one (value_number (suc k)) ≡ false =
    has-none _ earlier (occurs m (r.DefinesFunction true) ∷ []) (fresh-within l p numbers (suc k) (suc k) (value_number (suc k)) (omega arith)) (or_from _ false (no (nat_eq (main_number (suc k)) (value_number (suc k)))) refl)
    in (
      main-right names all earlier m (plain-main k) (fresh-file l p numbers (suc k) (main_number (suc k)) (λ f h. own_not_main f (suc k) h)),
      (
        local-right names all one x item (plain-value k) fresh,
        uses-right names all item two (main_uses p.of_main p.of_call (value_number (suc k)) (suc k))
            (main-known k item two p.of_main p.of_call small (local-known item one x)
            (λ f h. has-before _ one (occurs x (r.DeclaresLocal item) ∷ []) (has-before _ earlier (occurs m (r.DefinesFunction true) ∷ []) (function-declared l p numbers (suc k) f h))) (suc k) (omega arith)),
      ),
    )

-- ---- all names

names-each : (g : ℕ → tree.Item) (n : ℕ) (rest : List tree.Item) → names_from 0 (each g n ++ rest) ≡ each_below (λ f. item_names f (g f)) n ++ names_from n rest
names-each g zero rest = refl
names-each g (suc n) rest =
    ap (names_from 0) (append_assoc (each g n) (g n ∷ []) rest)
    ∙ (names-each g n (g n ∷ rest) ∙ sym (append_assoc (each_below (λ f. item_names f (g f)) n) (item_names n (g n)) (names_from (suc n) rest)))

main-names : {L : Type 0} (l : Labels L) (p : Places) (start n : ℕ) → names_from n (tree.FunctionItem (function_source (last_function l p start n)) ∷ []) ≡ main_list n (name (main_number n) (p.of_main 1)) (name (value_number n) (p.of_main 8)) (main_uses p.of_main p.of_call (value_number n) n)
main-names l p start n =
    append-nil _ ∙ ap (λ (xs : List Occurrence). occurs (name (main_number n) (p.of_main 1)) (r.DefinesFunction true) ∷ occurs (name (value_number n) (p.of_main 8)) (r.DeclaresLocal n) ∷ xs) (main-uses n l.back p.of_main p.of_call start (value_number n) (3 * n) n)

abbrev whole_list : {L : Type 0} → Labels L → Places → (ℕ → Numbers) → ℕ → List Occurrence
whole_list l p numbers n =
    each_below (function_names_of l p numbers) n ++ main_list n (name (main_number n) (p.of_main 1)) (name (value_number n) (p.of_main 8)) (main_uses p.of_main p.of_call (value_number n) n)

all-names-are : {L : Type 0} (l : Labels L) (p : Places) (numbers : ℕ → Numbers) (start n : ℕ) → names_from 0 (source_items l p numbers start n) ≡ whole_list l p numbers n
all-names-are l p numbers start n =
    names-each (source_function l p numbers) n (tree.FunctionItem (function_source (last_function l p start n)) ∷ []) ∙ ap (λ xs. each_below (function_names_of l p numbers) n ++ xs) (main-names l p start n)

-- a program with these names is right
pub names-right : {L : Type 0} (l : Labels L) (p : Places) (numbers : ℕ → Numbers) (start k : ℕ) → k ≤ 63 → first_name_fault (record { names = all_names (suc k); items = source_items l p numbers start (suc k); span = p.whole }) ≡ None
names-right l p numbers start k small =
    let names : List (List ℕ) = all_names (suc k) in
    let whole : List Occurrence = whole_list l p numbers (suc k) in
    let right : AreRight (all_names (suc k)) (whole_list l p numbers (suc k)) [] (whole_list l p numbers (suc k)) =
    right-append names whole [] (each_below (function_names_of l p numbers) (suc k)) _ (functions-right l p numbers k whole small (suc k) (omega arith)) (main-list-right l p numbers k whole small)
    in
    let none : first_wrong (all_names (suc k)) (whole_list l p numbers (suc k)) [] (whole_list l p numbers (suc k)) ≡ None =
    ap (first_wrong names whole []) (sym (append-nil whole)) ∙ none-wrong names whole [] whole [] right
    in
    let main : has_name defines (whole_list l p numbers (suc k)) (main_name (all_names (suc k))) ≡ true =
    ap (has_name defines whole) (main-is k) ∙ has-after _ (each_below (function_names_of l p numbers) (suc k)) _ (or_left (nat_eq (main_number (suc k)) (main_number (suc k)) && true) _ (and_from (nat_eq (main_number (suc k)) (main_number (suc k))) true (here (main_number (suc k))) refl))
    in
    ap (λ (all : List Occurrence). or_else (first_wrong (all_names (suc k)) all [] all) (cond (has_name defines all (main_name (all_names (suc k)))) None (Some (record { at = p.whole.to; kind = Main })))) (all-names-are l p numbers start (suc k))
    ∙ ap₂ (λ a b. or_else a (cond b None (Some (record { at = p.whole.to; kind = Main })))) none main
