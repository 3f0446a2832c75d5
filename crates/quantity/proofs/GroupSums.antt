-- Sums in a group. Assumes nothing.
use Rattle.std.proofs.Common.{◌≡◌, ℕ, zero, suc, ◌+◌, ◌<◌, ◌≤◌, List, [], ◌∷◌, ◌++◌, map, length, take, get_or, slice_index_or, sym, refl, ap, ◌∙◌, ap₂, add-one, arith}
use Rattle.std.proofs.lemmas.List.{get_or-map, length-map, map-append, take_all, take_more}
use Rattle.std.proofs.lemmas.List.Sums.{fold_push, fold_more}
use Rattle.quantity.specs.Group.{Group}
use Rattle.quantity.specs.Sums.{sum, sum_all}

pub sum_same : (G : Group) (n : ℕ) (f g : ℕ → G.Element) → ((k : ℕ) → k < n → f k ≡ g k) → sum G n f ≡ sum G n g
sum_same G zero f g e = refl
sum_same G (suc n) f g e = ap₂ G.plus (sum_same G n f g (λ k h. e k (omega arith))) (e n (omega arith))

pub sum_more : (G : Group) (n : ℕ) (f : ℕ → G.Element) → sum G (n + 1) f ≡ G.plus (sum G n f) (f n)
sum_more G n f = ap (λ m. sum G m f) (add-one n)

-- the sum of the first elements of a list, by their places
pub sum_taken : (G : Group) (xs : List G.Element) (n : ℕ) → n ≤ length xs → sum_all G (take n xs) ≡ sum G n (λ k. get_or xs k G.zero)
sum_taken G xs zero within = refl
sum_taken G xs (suc n) within =
    ap (λ m. sum_all G (take m xs)) (sym (add-one n))
    ∙ fold_more G.plus G.zero xs n G.zero (omega arith)
    ∙ ap (λ s. G.plus s (get_or xs n G.zero)) (sum_taken G xs n (omega arith))

-- the sum of a list of meanings, by places of the list of values
pub sum_map : (G : Group) {Q : Type 0} (means : Q → G.Element) (xs : List Q) → sum_all G (map means xs) ≡ sum G (length xs) (λ k. get_or (map means xs) k G.zero)
sum_map G means xs =
    let long = length-map xs means in
    sym (ap (sum_all G) (take_all (length xs) (map means xs) (omega arith))) ∙ sum_taken G (map means xs) (length xs) (omega arith)

-- one more value of the list
pub sum_map_more : (G : Group) {Q : Type 0} (means : Q → G.Element) (xs : List Q) (i : ℕ) (x : Q) (before after : G.Element) → i < length xs → x ≡ get_or xs i x → before ≡ sum G i (λ k. get_or (map means xs) k G.zero) → after ≡ G.plus before (means x) → after ≡ sum G (i + 1) (λ k. get_or (map means xs) k G.zero)
sum_map_more G means xs i x before after h read old new =
    new ∙ ap₂ G.plus old (ap means read ∙ sym (get_or-map means xs i x G.zero h)) ∙ sym (sum_more G i _)

-- what the values of a list mean, summed
module _ (G : Group) {Q : Type 0} (means : Q → G.Element) (xs : List Q) where
  -- one more value
  pub sum_take_more : (i : ℕ) (x : Q) (before after : G.Element) → i < length xs → x ≡ slice_index_or xs i x → before ≡ sum_all G (map means (take i xs)) → after ≡ G.plus before (means x) → after ≡ sum_all G (map means (take (i + 1) xs))
  sum_take_more i x before after within read old new =
      let pushed : take (i + 1) xs ≡ take i xs ++ (x ∷ []) = take_more xs i x within ∙ ap (λ y. take i xs ++ (y ∷ [])) (sym read) in
      rw (pushed, map-append, fold_push) (new ∙ ap (λ a. G.plus a (means x)) old)

  -- all of them
  pub sum_take_all : (i : ℕ) → length xs ≤ i → sum_all G (map means (take i xs)) ≡ sum_all G (map means xs)
  sum_take_all i all = ap (λ ys. sum_all G (map means ys)) (take_all i xs all)

-- a map that keeps zero and sums keeps the sums of lists
module _ (G H : Group) (h : G.Element → H.Element) (none : h G.zero ≡ H.zero) (more : (x y : G.Element) → h (G.plus x y) ≡ H.plus (h x) (h y)) where
  pub sum_carried : (n : ℕ) (f : ℕ → G.Element) → h (sum G n f) ≡ sum H n (λ k. h (f k))
  sum_carried zero f = none
  sum_carried (suc n) f = more (sum G n f) (f n) ∙ ap (λ x. H.plus x (h (f n))) (sum_carried n f)
