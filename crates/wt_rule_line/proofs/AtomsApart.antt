-- No atom of a lawful pair stands twice.
use Rattle.std.proofs.Common.{◌≡◌, ◌≢◌, ℕ, suc, ◌+◌, ◌<◌, ◌≤◌, Bool, true, false, List, [], ◌∷◌, ◌++◌, map, length, refl, sym, ap, subst, ◌∙◌, arith, length-append}
use Rattle.std.specs.Prelude.{◌==◌, ◌&&◌, Option, Some, None}
use Rattle.std.specs.Option.{option_map, option_to_list}
use Rattle.std.proofs.lemmas.Grind.{common_steps}
use Rattle.std.proofs.lemmas.List.{map-append}
use Rattle.wt_bag.specs.Bags.{Each}
use Rattle.wt_bag.specs.Choices.{Apart}
use Rattle.wt_symbol.specs.Sides.{SideTree, input, proj, filtered, inner_join, left_join, in_sub, dedup, PairTree, leaves_of, lists_of, preds_of}
use Rattle.wt_symbol.specs.Lawful.{counts_up, is_numbered, IsLawful}
use Rattle.wt_constraint.specs.declared.atom.Atom.{Atom}
use Rattle.wt_constraint.specs.declared.atom.Atom.TheVariants.{RelEq, AttrsEq, PredEq, Unique, NotNull, RefAttrs}
use Rattle.wt_constraint.specs.declared.atom.Kind.{Kind}
use Rattle.wt_constraint.specs.declared.atom.Kind.TheVariants.{Leaves, Lists, Preds}
use Rattle.wt_constraint.specs.Atoms.{equal, each_two, key_lists_of, root_list, references_of, atoms_over, atoms_of_pair}
use Rattle.wt_rule_text.specs.declared.parsed.ParsedAtom.{ParsedAtom}
use Rattle.wt_rule_text.specs.declared.parsed.ParsedAtom.TheVariants as texts
use Rattle.wt_rule_line.specs.Sets.{as_written, written_atoms_of}

and_both : (b c : Bool) → (b && c) ≡ true → (b ≡ true) × (c ≡ true)
and_both true c h = (refl, h)
and_both false c h = absurd (cc)

same_number : (x y : ℕ) → (x == y) ≡ true → x ≡ y
same_number x y h = grind (arith, common_steps)

-- ---- lists that ascend between two numbers

Between : ℕ → ℕ → List ℕ → Type 0
Between low high [] = low ≤ high
Between low high (x ∷ xs) = (low ≤ x) × Between (suc x) high xs

lower : (low low' high : ℕ) (xs : List ℕ) → low' ≤ low → Between low high xs → Between low' high xs
unfolding Between
lower low low' high [] l h = omega arith
lower low low' high (x ∷ xs) l h = (omega (arith, h.0), h.1)

between_append : (low mid high : ℕ) (xs ys : List ℕ) → Between low mid xs → Between mid high ys → Between low high (xs ++ ys)
unfolding Between
between_append low mid high [] ys h g = lower mid low high ys h g
between_append low mid high (x ∷ xs) ys h g = (h.0, between_append (suc x) mid high xs ys h.1 g)

ends_above : (low high : ℕ) (xs : List ℕ) → Between low high xs → low ≤ high
unfolding Between
ends_above low high [] h = h
ends_above low high (x ∷ xs) h = omega (arith, h.0, ends_above (suc x) high xs h.1)

higher : (low high high' : ℕ) (xs : List ℕ) → high ≤ high' → Between low high xs → Between low high' xs
unfolding Between
higher low high high' [] l h = omega arith
higher low high high' (x ∷ xs) l h = (h.0, higher (suc x) high high' xs l h.1)

counted : (n : ℕ) (xs : List ℕ) → counts_up n xs ≡ true → Between n (n + length xs) xs
unfolding Between
counted n [] h = omega arith
counted n (x ∷ xs) h =
    let both = and_both (x == n) (counts_up (suc n) xs) h in
    let here = same_number x n both.0 in
    (omega arith, subst (λ k. Between (suc x) k xs) (let e : suc n + length xs ≡ n + suc (length xs) = omega arith in e) (subst (λ y. Between (suc y) (suc n + length xs) xs) (sym here) (counted (suc n) xs both.1)))

each_above : {A : Type 0} (key : A → ℕ) (low high : ℕ) (xs : List A) → Between low high (map key xs) → Each (λ y. low ≤ key y) xs
unfolding Between
each_above key low high [] h = tt
each_above key low high (x ∷ xs) h = (h.0, each_above key low high xs (lower (suc (key x)) low high (map key xs) (omega (arith, h.0)) h.1))

each_then : {A : Type 0} (P Q : A → Type 0) (xs : List A) → ((x : A) → P x → Q x) → Each P xs → Each Q xs
each_then P Q [] f h = tt
each_then P Q (x ∷ xs) f h = (f x h.0, each_then P Q xs f h.1)

-- a list whose keys ascend has no element twice
keys_apart : {A : Type 0} (key : A → ℕ) (low high : ℕ) (xs : List A) → Between low high (map key xs) → Apart xs
unfolding Between
keys_apart key low high [] h = tt
keys_apart key low high (x ∷ xs) h =
    (each_then (λ y. suc (key x) ≤ key y) (λ y. x ≢ y) xs (λ y l e. let k = ap key e in absurd (omega arith)) (each_above key (suc (key x)) high xs h.1), keys_apart key (suc (key x)) high xs h.1)

-- two lists with a key below in the one and not below in the other
both_each : {A : Type 0} (P : A → Type 0) (xs ys : List A) → Each P xs → Each P ys → Each P (xs ++ ys)
both_each P [] ys h g = g
both_each P (x ∷ xs) ys h g = (h.0, both_each P xs ys h.1 g)

apart_append : {A : Type 0} (key : A → ℕ) (k : ℕ) (xs ys : List A) → Each (λ x. key x < k) xs → Each (λ y. k ≤ key y) ys → Apart xs → Apart ys → Apart (xs ++ ys)
apart_append key k [] ys low high a b = b
apart_append key k (x ∷ xs) ys low high a b =
    (both_each (λ y. x ≢ y) xs ys a.0 (each_then (λ y. k ≤ key y) (λ y. x ≢ y) ys (λ y l e. let s = ap key e in absurd (omega (arith, low.0))) high), apart_append key k xs ys low.1 high a.1 b)

-- ---- atoms that make symbols equal

first : Atom → ℕ
first (RelEq x y) = x
first (AttrsEq x y) = x
first (PredEq x y) = x
first (Unique a) = a
first (NotNull a) = a
first (RefAttrs a b) = a

second : Atom → ℕ
second (RelEq x y) = y
second (AttrsEq x y) = y
second (PredEq x y) = y
second (Unique a) = 0
second (NotNull a) = 0
second (RefAttrs a b) = b

-- the kind of an atom, by number
kind_number : Atom → ℕ
kind_number (RelEq x y) = 0
kind_number (AttrsEq x y) = 1
kind_number (PredEq x y) = 2
kind_number (Unique a) = 3
kind_number (NotNull a) = 4
kind_number (RefAttrs a b) = 5

first_of : (kind : Kind) (x y : ℕ) → first (equal kind x y) ≡ x
unfolding first
first_of Leaves x y = refl
first_of Lists x y = refl
first_of Preds x y = refl

seconds : (kind : Kind) (x : ℕ) (ys : List ℕ) → map second (map (equal kind x) ys) ≡ ys
unfolding second
seconds Leaves x [] = refl
seconds Lists x [] = refl
seconds Preds x [] = refl
seconds Leaves x (y ∷ ys) = ap (λ l. y ∷ l) (seconds Leaves x ys)
seconds Lists x (y ∷ ys) = ap (λ l. y ∷ l) (seconds Lists x ys)
seconds Preds x (y ∷ ys) = ap (λ l. y ∷ l) (seconds Preds x ys)

each_first : (P : Atom → Type 0) (kind : Kind) (x : ℕ) (ys : List ℕ) → ((y : ℕ) → P (equal kind x y)) → Each P (map (equal kind x) ys)
each_first P kind x [] f = tt
each_first P kind x (y ∷ ys) f = (f y, each_first P kind x ys f)

firsts : (kind : Kind) (n : ℕ) (xs : List ℕ) → counts_up n xs ≡ true → Each (λ a. n ≤ first a) (each_two kind xs)
firsts kind n [] h = tt
firsts kind n (x ∷ xs) h =
    let both = and_both (x == n) (counts_up (suc n) xs) h in
    let here = same_number x n both.0 in
    both_each (λ a. n ≤ first a) (map (equal kind x) xs) (each_two kind xs) (each_first (λ a. n ≤ first a) kind x xs (λ y. omega (arith, first_of kind x y)))
    (each_then (λ a. suc n ≤ first a) (λ a. n ≤ first a) (each_two kind xs) (λ a l. omega arith) (firsts kind (suc n) xs both.1))

two_apart : (kind : Kind) (n : ℕ) (xs : List ℕ) → counts_up n xs ≡ true → Apart (each_two kind xs)
two_apart kind n [] h = tt
two_apart kind n (x ∷ xs) h =
    let both = and_both (x == n) (counts_up (suc n) xs) h in
    let here = same_number x n both.0 in
    let asc : Between (suc n) (suc n + length xs) (map second (map (equal kind x) xs)) = subst (Between (suc n) (suc n + length xs)) (sym (seconds kind x xs)) (counted (suc n) xs both.1) in
    apart_append first (suc n) (map (equal kind x) xs) (each_two kind xs) (each_first (λ a. first a < suc n) kind x xs (λ y. omega (arith, first_of kind x y)))
    (firsts kind (suc n) xs both.1) (keys_apart second (suc n) (suc n + length xs) (map (equal kind x) xs) asc) (two_apart kind (suc n) xs both.1)

kinds_of : (kind : Kind) (k : ℕ) (xs : List ℕ) → ((x y : ℕ) → kind_number (equal kind x y) ≡ k) → Each (λ a. kind_number a ≡ k) (each_two kind xs)
kinds_of kind k [] f = tt
kinds_of kind k (x ∷ xs) f =
    both_each (λ a. kind_number a ≡ k) (map (equal kind x) xs) (each_two kind xs) (each_first (λ a. kind_number a ≡ k) kind x xs (f x)) (kinds_of kind k xs f)

-- ---- lists of operators

split_count : (n : ℕ) (xs ys : List ℕ) → counts_up n (xs ++ ys) ≡ true → (counts_up n xs ≡ true) × (counts_up (n + length xs) ys ≡ true)
split_count n [] ys h = (refl, subst (λ k. counts_up k ys ≡ true) (let e : n ≡ n + 0 = omega arith in e) h)
split_count n (x ∷ xs) ys h =
    let both = and_both (x == n) (counts_up (suc n) (xs ++ ys)) h in
    let rest = split_count (suc n) xs ys both.1 in
    (ap (λ b. b && counts_up (suc n) xs) both.0 ∙ rest.0, subst (λ k. counts_up k ys ≡ true) (let e : suc n + length xs ≡ n + suc (length xs) = omega arith in e) rest.1)

-- keys between the numbers of a join's two operands
both_between : (n : ℕ) (ls lt ks kt : List ℕ) → Between n (n + length ls) ks → Between (n + length ls) (n + length ls + length lt) kt → Between n (n + length (ls ++ lt)) (ks ++ kt)
both_between n ls lt ks kt a b =
    subst (λ k. Between n k (ks ++ kt)) (let e : n + length ls + length lt ≡ n + length (ls ++ lt) = omega (arith, length-append ls lt) in e) (between_append n (n + length ls) _ ks kt a b)

one_more : (n x : ℕ) (ls ks : List ℕ) → x ≡ n → Between (suc n) (suc n + length ls) ks → Between n (n + length (x ∷ ls)) (x ∷ ks)
unfolding Between
one_more n x ls ks e h =
    (omega arith, subst (λ y. Between (suc y) (n + suc (length ls)) ks) (sym e) (subst (λ k. Between (suc n) k ks) (let s : suc n + length ls ≡ n + suc (length ls) = omega arith in s) h))

one_less : (n x : ℕ) (ls ks : List ℕ) → Between (suc n) (suc n + length ls) ks → Between n (n + length (x ∷ ls)) ks
one_less n x ls ks h = lower (suc n) n _ ks (omega arith) (subst (λ k. Between (suc n) k ks) (let s : suc n + length ls ≡ n + suc (length ls) = omega arith in s) h)

head_is : (n x : ℕ) (xs : List ℕ) → counts_up n (x ∷ xs) ≡ true → (x ≡ n) × (counts_up (suc n) xs ≡ true)
head_is n x xs h = let both = and_both (x == n) (counts_up (suc n) xs) h in (same_number x n both.0, both.1)

keys_between : (s : SideTree) (n : ℕ) → counts_up n (lists_of s) ≡ true → Between n (n + length (lists_of s)) (key_lists_of s)
unfolding Between
keys_between (input r) n h = omega arith
keys_between (proj a s) n h = let (here, rest) = head_is n a (lists_of s) h in one_more n a (lists_of s) (key_lists_of s) here (keys_between s (suc n) rest)
keys_between (filtered p a s) n h = let (here, rest) = head_is n a (lists_of s) h in one_less n a (lists_of s) (key_lists_of s) (keys_between s (suc n) rest)
keys_between (inner_join a b s t) n h =
    let (here, r1) = head_is n a (b ∷ (lists_of s ++ lists_of t)) h in
    let (there, r2) = head_is (suc n) b (lists_of s ++ lists_of t) r1 in
    let (left, right) = split_count (suc (suc n)) (lists_of s) (lists_of t) r2 in
    one_more n a (b ∷ (lists_of s ++ lists_of t)) (b ∷ (key_lists_of s ++ key_lists_of t)) here (one_more (suc n) b (lists_of s ++ lists_of t) (key_lists_of s ++ key_lists_of t) there (both_between (suc (suc n)) (lists_of s) (lists_of t) (key_lists_of s) (key_lists_of t) (keys_between s (suc (suc n)) left) (keys_between t _ right)))
keys_between (left_join a b s t) n h =
    let (here, r1) = head_is n a (b ∷ (lists_of s ++ lists_of t)) h in
    let (there, r2) = head_is (suc n) b (lists_of s ++ lists_of t) r1 in
    let (left, right) = split_count (suc (suc n)) (lists_of s) (lists_of t) r2 in
    one_more n a (b ∷ (lists_of s ++ lists_of t)) (b ∷ (key_lists_of s ++ key_lists_of t)) here (one_more (suc n) b (lists_of s ++ lists_of t) (key_lists_of s ++ key_lists_of t) there (both_between (suc (suc n)) (lists_of s) (lists_of t) (key_lists_of s) (key_lists_of t) (keys_between s (suc (suc n)) left) (keys_between t _ right)))
keys_between (in_sub a s t) n h =
    let (here, r1) = head_is n a (lists_of s ++ lists_of t) h in
    let (left, right) = split_count (suc n) (lists_of s) (lists_of t) r1 in
    one_more n a (lists_of s ++ lists_of t) (key_lists_of s ++ key_lists_of t) here (both_between (suc n) (lists_of s) (lists_of t) (key_lists_of s) (key_lists_of t) (keys_between s (suc n) left) (keys_between t _ right))
keys_between (dedup s) n h = keys_between s n h

refs_append : (n : ℕ) (ls lt : List ℕ) (xs ys : List Atom) → Between n (n + length ls) (map first xs) → Between (n + length ls) (n + length ls + length lt) (map first ys) → Between n (n + length (ls ++ lt)) (map first (xs ++ ys))
refs_append n ls lt xs ys a b = subst (Between n (n + length (ls ++ lt))) (sym (map-append first xs ys)) (both_between n ls lt (map first xs) (map first ys) a b)

with_root : (n a : ℕ) (root : Option ℕ) (ls : List ℕ) (refs : List Atom) → a ≡ n → Between (suc n) (suc n + length ls) (map first refs) →
    Between n (n + length (a ∷ ls)) (map first (option_to_list (option_map (RefAttrs a) root) ++ refs))
unfolding first
with_root n a None ls refs here rest = one_less n a ls (map first refs) rest
with_root n a (Some b) ls refs here rest = one_more n a ls (map first refs) here rest

refs_between : (s : SideTree) (n : ℕ) → counts_up n (lists_of s) ≡ true → Between n (n + length (lists_of s)) (map first (references_of s))
unfolding Between first
refs_between (input r) n h = omega arith
refs_between (proj a s) n h = let (here, rest) = head_is n a (lists_of s) h in one_less n a (lists_of s) _ (refs_between s (suc n) rest)
refs_between (filtered p a s) n h = let (here, rest) = head_is n a (lists_of s) h in one_less n a (lists_of s) _ (refs_between s (suc n) rest)
refs_between (inner_join a b s t) n h =
    let (here, r1) = head_is n a (b ∷ (lists_of s ++ lists_of t)) h in
    let (there, r2) = head_is (suc n) b (lists_of s ++ lists_of t) r1 in
    let (left, right) = split_count (suc (suc n)) (lists_of s) (lists_of t) r2 in
    one_more n a (b ∷ (lists_of s ++ lists_of t)) (b ∷ map first (references_of s ++ references_of t)) here (one_more (suc n) b (lists_of s ++ lists_of t) (map first (references_of s ++ references_of t)) there (refs_append (suc (suc n)) (lists_of s) (lists_of t) (references_of s) (references_of t) (refs_between s (suc (suc n)) left) (refs_between t _ right)))
refs_between (left_join a b s t) n h =
    let (here, r1) = head_is n a (b ∷ (lists_of s ++ lists_of t)) h in
    let (there, r2) = head_is (suc n) b (lists_of s ++ lists_of t) r1 in
    let (left, right) = split_count (suc (suc n)) (lists_of s) (lists_of t) r2 in
    one_more n a (b ∷ (lists_of s ++ lists_of t)) (map first (references_of s ++ references_of t)) here (one_less (suc n) b (lists_of s ++ lists_of t) (map first (references_of s ++ references_of t)) (refs_append (suc (suc n)) (lists_of s) (lists_of t) (references_of s) (references_of t) (refs_between s (suc (suc n)) left) (refs_between t _ right)))
refs_between (in_sub a s t) n h =
    let (here, r1) = head_is n a (lists_of s ++ lists_of t) h in
    let (left, right) = split_count (suc n) (lists_of s) (lists_of t) r1 in
    let rest = refs_append (suc n) (lists_of s) (lists_of t) (references_of s) (references_of t) (refs_between s (suc n) left) (refs_between t _ right) in
    with_root n a (root_list t) (lists_of s ++ lists_of t) (references_of s ++ references_of t) here rest
refs_between (dedup s) n h = refs_between s n h

uniques : (xs : List ℕ) → map first (map Unique xs) ≡ xs
unfolding first
uniques [] = refl
uniques (x ∷ xs) = ap (λ l. x ∷ l) (uniques xs)

not_nulls : (xs : List ℕ) → map first (map NotNull xs) ≡ xs
unfolding first
not_nulls [] = refl
not_nulls (x ∷ xs) = ap (λ l. x ∷ l) (not_nulls xs)

unique_kinds : (xs : List ℕ) → Each (λ a. kind_number a ≡ 3) (map Unique xs)
unfolding kind_number
unique_kinds [] = tt
unique_kinds (x ∷ xs) = (refl, unique_kinds xs)

not_null_kinds : (xs : List ℕ) → Each (λ a. kind_number a ≡ 4) (map NotNull xs)
unfolding kind_number
not_null_kinds [] = tt
not_null_kinds (x ∷ xs) = (refl, not_null_kinds xs)

root_kind : (a : ℕ) (root : Option ℕ) → Each (λ a. kind_number a ≡ 5) (option_to_list (option_map (RefAttrs a) root))
unfolding kind_number
root_kind a None = tt
root_kind a (Some b) = (refl, tt)

reference_kinds : (s : SideTree) → Each (λ a. kind_number a ≡ 5) (references_of s)
unfolding kind_number
reference_kinds (input r) = tt
reference_kinds (proj a s) = reference_kinds s
reference_kinds (filtered p a s) = reference_kinds s
reference_kinds (inner_join a b s t) = (refl, (refl, both_each (λ a. kind_number a ≡ 5) (references_of s) (references_of t) (reference_kinds s) (reference_kinds t)))
reference_kinds (left_join a b s t) = (refl, both_each (λ a. kind_number a ≡ 5) (references_of s) (references_of t) (reference_kinds s) (reference_kinds t))
reference_kinds (in_sub a s t) =
    both_each (λ a. kind_number a ≡ 5) (option_to_list (option_map (RefAttrs a) (root_list t))) (references_of s ++ references_of t) (root_kind a (root_list t))
    (both_each (λ a. kind_number a ≡ 5) (references_of s) (references_of t) (reference_kinds s) (reference_kinds t))
reference_kinds (dedup s) = reference_kinds s

-- ---- all atoms

-- the kinds below k, and more of the kind k
next_kind : (k : ℕ) (xs ys : List Atom) → Each (λ a. kind_number a < k) xs × Apart xs → Each (λ a. kind_number a ≡ k) ys → Apart ys → Each (λ a. kind_number a < suc k) (xs ++ ys) × Apart (xs ++ ys)
next_kind k xs ys before kinds apart = (
  both_each (λ a. kind_number a < suc k) xs ys (each_then (λ a. kind_number a < k) (λ a. kind_number a < suc k) xs (λ a l. omega arith) before.0)
      (each_then (λ a. kind_number a ≡ k) (λ a. kind_number a < suc k) ys (λ a e. omega arith) kinds),
  apart_append kind_number k xs ys before.0 (each_then (λ a. kind_number a ≡ k) (λ a. k ≤ kind_number a) ys (λ a e. omega arith) kinds) before.1 apart,
)

leaf_kinds : (xs : List ℕ) → Each (λ a. kind_number a ≡ 0) (each_two Leaves xs)
unfolding kind_number
leaf_kinds xs = kinds_of Leaves 0 xs (λ x y. refl)

list_kinds : (xs : List ℕ) → Each (λ a. kind_number a ≡ 1) (each_two Lists xs)
unfolding kind_number
list_kinds xs = kinds_of Lists 1 xs (λ x y. refl)

pred_kinds : (xs : List ℕ) → Each (λ a. kind_number a ≡ 2) (each_two Preds xs)
unfolding kind_number
pred_kinds xs = kinds_of Preds 2 xs (λ x y. refl)

over_apart : (s : SideTree) → is_numbered s ≡ true → Apart (atoms_over s)
over_apart s numbered =
    let (both, preds) = and_both (counts_up 0 (leaves_of s) && counts_up 0 (lists_of s)) (counts_up 0 (preds_of s)) numbered in
    let (leaves, lists) = and_both (counts_up 0 (leaves_of s)) (counts_up 0 (lists_of s)) both in
    let keys = keys_between s 0 lists in
    let e0 = each_then (λ a. kind_number a ≡ 0) (λ a. kind_number a < 1) (each_two Leaves (leaves_of s)) (λ a e. omega arith) (leaf_kinds (leaves_of s)) in
    let k1 = next_kind 1 (each_two Leaves (leaves_of s)) (each_two Lists (lists_of s)) (e0, two_apart Leaves 0 (leaves_of s) leaves) (list_kinds (lists_of s)) (two_apart Lists 0 (lists_of s) lists) in
    let k2 = next_kind 2 _ (each_two Preds (preds_of s)) k1 (pred_kinds (preds_of s)) (two_apart Preds 0 (preds_of s) preds) in
    let k3 = next_kind 3 _ (map Unique (key_lists_of s)) k2 (unique_kinds (key_lists_of s)) (keys_apart first 0 _ (map Unique (key_lists_of s)) (subst (Between 0 _) (sym (uniques (key_lists_of s))) keys)) in
    let k4 = next_kind 4 _ (map NotNull (key_lists_of s)) k3 (not_null_kinds (key_lists_of s)) (keys_apart first 0 _ (map NotNull (key_lists_of s)) (subst (Between 0 _) (sym (not_nulls (key_lists_of s))) keys)) in
    (next_kind 5 _ (references_of s) k4 (reference_kinds s) (keys_apart first 0 _ (references_of s) (refs_between s 0 lists))).1

numbered : (p : PairTree) → IsLawful p → is_numbered p.source ≡ true
numbered p lawful = (and_both _ _ (and_both _ _ (and_both _ _ lawful.symbols).0).0).0

-- ---- as lines have them

atom_of : ParsedAtom → Atom
atom_of (texts.RelEq x y) = RelEq x y
atom_of (texts.AttrsEq x y) = AttrsEq x y
atom_of (texts.PredEq x y) = PredEq x y
atom_of (texts.Unique r a) = Unique a
atom_of (texts.NotNull r a) = NotNull a
atom_of (texts.RefAttrs r a s b) = RefAttrs a b

atom_back : (A : List ℕ) (x : Atom) → atom_of (as_written A x) ≡ x
unfolding atom_of
atom_back A (RelEq x y) = refl
atom_back A (AttrsEq x y) = refl
atom_back A (PredEq x y) = refl
atom_back A (Unique a) = refl
atom_back A (NotNull a) = refl
atom_back A (RefAttrs a b) = refl

map_each : (A : List ℕ) (x : Atom) (xs : List Atom) → Each (λ y. x ≢ y) xs → Each (λ y. as_written A x ≢ y) (map (as_written A) xs)
map_each A x [] h = tt
map_each A x (y ∷ ys) h = ((λ e. h.0 (sym (atom_back A x) ∙ ap atom_of e ∙ atom_back A y)), map_each A x ys h.1)

map_apart : (A : List ℕ) (xs : List Atom) → Apart xs → Apart (map (as_written A) xs)
map_apart A [] h = tt
map_apart A (x ∷ xs) h = (map_each A x xs h.0, map_apart A xs h.1)

pub written_apart : (p : PairTree) → IsLawful p → Apart (written_atoms_of p)
written_apart p lawful = map_apart p.anchors (atoms_of_pair p) (over_apart p.source (numbered p lawful))
