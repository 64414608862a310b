-- The lists that are told of each node, after a change of one node.
use Rattle.std.proofs.Common.{◌≡◌, ℕ, ◌-◌, ◌<◌, List, [], ◌∷◌, ◌++◌, length, map, get_or, set, take, ap, sym, ◌∙◌, arith, length-append}
use Rattle.std.proofs.lemmas.List.{map-set, get_or-map, set-get_or, set-set, get_or-set_same}
use Rattle.std.proofs.Math.Seq.{take-append_seam}
use Rattle.call_graph.specs.CallPaths.{list_added}
use Rattle.call_graph.specs.Code.Walks.{list_at}
use Rattle.call_graph.specs.declared.nodes.Node.{Node}

-- the changed node has one number more
pub added : (tell : Node → List ℕ) (nodes : List Node) (f : ℕ) (n m : Node) (x : ℕ) → f < length nodes → tell n ≡ tell (get_or nodes f m) ++ x ∷ [] → map tell (set nodes f n) ≡ list_added (map tell nodes) f x
added tell nodes f n m x h e = map-set tell nodes f n ∙ ap (λ (xs : List ℕ). set (map tell nodes) f xs) (e ∙ ap (λ (ys : List ℕ). ys ++ x ∷ []) (sym (get_or-map tell nodes f m [] h)))

-- the changed node lost the number that was added last
pub forgotten : (tell : Node → List ℕ) (nodes : List Node) (f : ℕ) (n m : Node) (lists : List (List ℕ)) (x k : ℕ) → f < length nodes → f < length lists → map tell nodes ≡ list_added lists f x → k ≡ length (tell (get_or nodes f m)) → tell n ≡ take (k - 1) (tell (get_or nodes f m)) → map tell (set nodes f n) ≡ lists
forgotten tell nodes f n m lists x k h within e len cut =
    let was : tell (get_or nodes f m) ≡ list_at lists f ++ x ∷ [] = sym (get_or-map tell nodes f m [] h) ∙ (ap (λ (ls : List (List ℕ)). list_at ls f) e ∙ get_or-set_same lists f (list_at lists f ++ x ∷ []) [] within) in
    let less : k - 1 ≡ length (list_at lists f) = let l = ap length was in let m' = length-append (list_at lists f) (x ∷ []) in omega arith in
    let now : tell n ≡ list_at lists f = cut ∙ (ap (λ (ys : List ℕ). take (k - 1) ys) was ∙ (ap (λ (i : ℕ). take i (list_at lists f ++ x ∷ [])) less ∙ take-append_seam (list_at lists f) (x ∷ []))) in
    map-set tell nodes f n ∙ (ap (λ (xs : List ℕ). set (map tell nodes) f xs) now ∙ (ap (λ (ls : List (List ℕ)). set ls f (list_at lists f)) e ∙ (set-set lists f (list_at lists f ++ x ∷ []) (list_at lists f) ∙ set-get_or lists f [])))
