-- What an InnerJoin asks of its operands is what the set asks, and what its pairs add.
use Rattle.std.proofs.Common.{◌≡◌, ℕ, ◌+◌, ◌-◌, nat_lt, Bool, true, false, not, cond, List, [], ◌∷◌, ◌++◌, map, filter, refl, sym, ap, ◌∙◌, arith, append_assoc}
use Rattle.std.specs.Prelude.{◌&&◌}
use Rattle.std.proofs.lemmas.Bool.Decides.{nat_tests}
use Rattle.wt_known.specs.Sets.{is_in, lefts, rights, paired_with}
use Rattle.wt_unique.specs.Asking.{paired_lefts, paired_rights, added_lefts, added_rights}

pub filter_append : {X : Type 0} (p : X → Bool) (xs ys : List X) → filter p (xs ++ ys) ≡ filter p xs ++ filter p ys
filter_append p [] ys = refl
filter_append p (x ∷ xs) ys = here (p x) (filter_append p xs ys)
  where
    here : (b : Bool) → filter p (xs ++ ys) ≡ filter p xs ++ filter p ys → cond b (x ∷ filter p (xs ++ ys)) (filter p (xs ++ ys)) ≡ cond b (x ∷ filter p xs) (filter p xs) ++ filter p ys
    here true e = ap (λ (l : List _). x ∷ l) e
    here false e = e

pub map_append : {X Y : Type 0} (f : X → Y) (xs ys : List X) → map f (xs ++ ys) ≡ map f xs ++ map f ys
map_append f [] ys = refl
map_append f (x ∷ xs) ys = ap (λ (l : List _). f x ∷ l) (map_append f xs ys)

lefts_append : (w : ℕ) (xs ys : List ℕ) → lefts w (xs ++ ys) ≡ lefts w xs ++ lefts w ys
lefts_append w xs ys = filter_append (λ c. nat_lt c w) xs ys

rights_append : (w : ℕ) (xs ys : List ℕ) → rights w (xs ++ ys) ≡ rights w xs ++ rights w ys
rights_append w xs ys = ap (map (λ c. c - w)) (filter_append (λ c. not (nat_lt c w)) xs ys) ∙ map_append (λ c. c - w) (filter (λ c. not (nat_lt c w)) xs) (filter (λ c. not (nat_lt c w)) ys)

far_test : (w y : ℕ) → nat_lt (y + w) w ≡ false
far_test w y = grind (arith, nat_tests)

left_far : (w y : ℕ) (i : Bool) → lefts w (cond i ((y + w) ∷ []) []) ≡ []
left_far w y true = ap (λ b. cond b ((y + w) ∷ []) []) (far_test w y)
left_far w y false = refl

left_one : (w x : ℕ) (j : Bool) → lefts w (cond j (x ∷ []) []) ≡ cond (j && nat_lt x w) (x ∷ []) []
left_one w x true = refl
left_one w x false = refl

right_far : (w y : ℕ) (i : Bool) → rights w (cond i ((y + w) ∷ []) []) ≡ cond i (y ∷ []) []
right_far w y true =
    let back : (y + w) - w ≡ y = omega arith in
    ap (λ b. map (λ c. c - w) (cond (not b) ((y + w) ∷ []) [])) (far_test w y) ∙ ap (λ c. c ∷ []) back
right_far w y false = refl

right_one : (w x : ℕ) (j : Bool) → rights w (cond j (x ∷ []) []) ≡ cond (j && not (nat_lt x w)) ((x - w) ∷ []) []
right_one w x true = here (nat_lt x w)
  where
    here : (b : Bool) → map (λ c. c - w) (cond (not b) (x ∷ []) []) ≡ cond (not b) ((x - w) ∷ []) []
    here true = refl
    here false = refl
right_one w x false = refl

lefts_added : (w : ℕ) (a b set : List ℕ) → lefts w (paired_with w a b set) ≡ added_lefts w a b set
lefts_added w [] b set = refl
lefts_added w (x ∷ a) [] set = refl
lefts_added w (x ∷ a) (y ∷ b) set =
    let far = cond (is_in x set) ((y + w) ∷ []) [] in
    let one = cond (is_in (y + w) set) (x ∷ []) [] in
    lefts_append w far (one ++ paired_with w a b set)
    ∙ ap (λ l. l ++ lefts w (one ++ paired_with w a b set)) (left_far w y (is_in x set))
    ∙ lefts_append w one (paired_with w a b set)
    ∙ ap (λ l. l ++ lefts w (paired_with w a b set)) (left_one w x (is_in (y + w) set))
    ∙ ap (λ l. cond (is_in (y + w) set && nat_lt x w) (x ∷ []) [] ++ l) (lefts_added w a b set)

rights_added : (w : ℕ) (a b set : List ℕ) → rights w (paired_with w a b set) ≡ added_rights w a b set
rights_added w [] b set = refl
rights_added w (x ∷ a) [] set = refl
rights_added w (x ∷ a) (y ∷ b) set =
    let far = cond (is_in x set) ((y + w) ∷ []) [] in
    let one = cond (is_in (y + w) set) (x ∷ []) [] in
    let near = cond (is_in x set) (y ∷ []) [] in
    let back = cond (is_in (y + w) set && not (nat_lt x w)) ((x - w) ∷ []) [] in
    rights_append w far (one ++ paired_with w a b set)
    ∙ ap (λ l. l ++ rights w (one ++ paired_with w a b set)) (right_far w y (is_in x set))
    ∙ ap (λ l. near ++ l) (rights_append w one (paired_with w a b set) ∙ ap (λ l. l ++ rights w (paired_with w a b set)) (right_one w x (is_in (y + w) set)) ∙ ap (λ l. back ++ l) (rights_added w a b set))
    ∙ sym (append_assoc near back (added_rights w a b set))

pub paired_left_is : (w : ℕ) (a b set : List ℕ) → paired_lefts w a b set ≡ lefts w set ++ added_lefts w a b set
paired_left_is w a b set = lefts_append w set (paired_with w a b set) ∙ ap (λ l. lefts w set ++ l) (lefts_added w a b set)

pub paired_right_is : (w : ℕ) (a b set : List ℕ) → paired_rights w a b set ≡ rights w set ++ added_rights w a b set
paired_right_is w a b set = rights_append w set (paired_with w a b set) ∙ ap (λ l. rights w set ++ l) (rights_added w a b set)
