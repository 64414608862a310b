-- Items of which one more is typed.
use Rattle.std.proofs.Common.{◌≡◌, ◌∙◌, List, [], ◌∷◌, ◌++◌, Result, Ok, Err, length, refl, sym, ap, append_assoc}
use Rattle.clight_source.specs.Trees as s
use Rattle.clight_syntax.specs.TypedTrees.{Item, StructItem, GlobalItem, PrototypeItem, FunctionItem, Function}
use Rattle.clight_typing.specs.Functions.{File}
use Rattle.clight_typing.specs.Code.HeldFunction.{U, Step, step, typed_item, items_with, with_end}
use Rattle.clight_typing.specs.Programs.{after_struct, after_global, after_prototype, after_function}
use Rattle.clight_types.specs.TypedExpressions.{Checked, TypeFault, ◌>>=◌}
use Rattle.clight_typing.proofs.FunctionParts.{function_parts}
use Rattle.clight_typing.specs.TypedPrograms.{Items, typed_items, typed_function, checked_struct, checked_global, checked_prototype}

-- the items and functions before others
abbrev pub with_before : List Item → List (Function U) → Items → Items
with_before items functions x = items_with (items ++ x.items) (functions ++ x.functions) x.end

abbrev pub behind : List Item → List (Function U) → Checked Items → Checked Items
behind items functions rest = rest >>= λ x. Ok (with_before items functions x)

pub behind_none : (rest : Checked Items) → behind [] [] rest ≡ rest
behind_none (Ok x) = refl
behind_none (Err f) = refl

assoc : {A B C : Type 0} (o : Checked A) (f : A → Checked B) (g : B → Checked C) → ((o >>= f) >>= g) ≡ (o >>= λ a. f a >>= g)
assoc (Ok a) f g = refl
assoc (Err e) f g = refl

assoc₃ : {A B C D : Type 0} (o : Checked A) (f : A → Checked B) (g : B → Checked C) (h : C → Checked D) → (((o >>= f) >>= g) >>= h) ≡ (o >>= λ a. (f a >>= g) >>= h)
assoc₃ (Ok a) f g h = refl
assoc₃ (Err e) f g h = refl

abbrev following : List s.Item → Step → Checked Items
following rest one = behind (one.item ∷ []) one.functions (typed_items one.end rest)

-- an item and those behind it
pub items_step : (file : File) (x : s.Item) (rest : List s.Item) → typed_items file (x ∷ rest) ≡ (typed_item file x >>= following rest)
items_step file (s.StructItem x) rest =
    sym (assoc (checked_struct file.structs x) (λ one. Ok (step (StructItem x) [] (after_struct file x))) (following rest))
items_step file (s.GlobalItem x) rest =
    sym (assoc (checked_global file.structs x) (λ one. Ok (step (GlobalItem x (length file.variables)) [] (after_global file x))) (following rest))
items_step file (s.PrototypeItem x) rest =
    sym (assoc (checked_prototype file.structs x.header) (λ one. Ok (step (PrototypeItem x) [] (after_prototype file x.header))) (following rest))
items_step file (s.FunctionItem x) rest =
    sym (ap (λ o. (o >>= λ f. Ok (step (FunctionItem file.functions) (f.function ∷ []) f.end)) >>= following rest) (function_parts file x)
    ∙ assoc₃ (typed_function file x) (λ f. Ok (with_end f (after_function file f))) (λ f. Ok (step (FunctionItem file.functions) (f.function ∷ []) f.end)) (following rest))

behind_twice : (items more : List Item) (functions others : List (Function U)) (rest : Checked Items) →
    behind items functions (behind more others rest) ≡ behind (items ++ more) (functions ++ others) rest
behind_twice items more functions others (Ok x) =
    let f : List Item → List (Function U) → Checked Items = λ is fs. Ok (items_with is fs x.end) in
    ap (λ is. f is (functions ++ (others ++ x.functions))) (sym (append_assoc items more x.items))
    ∙ ap (λ fs. f ((items ++ more) ++ x.items) fs) (sym (append_assoc functions others x.functions))
behind_twice items more functions others (Err e) = refl

-- one more item behind some others
pub items_next : (file : File) (x : s.Item) (rest : List s.Item) (one : Step) (items : List Item) (functions : List (Function U)) → typed_item file x ≡ Ok one →
    behind items functions (typed_items file (x ∷ rest)) ≡ behind (items ++ one.item ∷ []) (functions ++ one.functions) (typed_items one.end rest)
items_next file x rest one items functions is =
    ap (behind items functions) (items_step file x rest ∙ ap (λ o. o >>= following rest) is)
    ∙ behind_twice items (one.item ∷ []) functions one.functions (typed_items one.end rest)

-- a fault in an item behind some others
pub items_fail : (file : File) (x : s.Item) (rest : List s.Item) (f : TypeFault) (items : List Item) (functions : List (Function U)) → typed_item file x ≡ Err f →
    behind items functions (typed_items file (x ∷ rest)) ≡ Err f
items_fail file x rest f items functions is = ap (behind items functions) (items_step file x rest ∙ ap (λ o. o >>= following rest) is)
