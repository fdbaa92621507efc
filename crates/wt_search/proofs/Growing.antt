-- Forms that are found.
use Rattle.std.proofs.Common.{ℕ, zero, suc, ◌+◌, ◌-◌, ◌<◌, ◌≤◌, ◌≡◌, ◌⊎◌, Bool, true, false, not, List, [], ◌∷◌, ◌++◌, map, take, drop, get_or, length, refl, sym, ap, ◌∙◌, subst, inl, inr, arith, if◌then◌else◌}
use Rattle.std.specs.List.{list_any}
use Rattle.std.proofs.lemmas.Bool.{cases_order}
use Rattle.std.proofs.lemmas.List.{take_all, append-nil, append_assoc, drop-append-le, length-map}
use Rattle.indexmap.specs.IndexSet.{insert_key}
use Rattle.wt_bag.specs.Choices.{Has, At}
use Rattle.wt_bag.proofs.HasLaws.{has_left, has_right, has_split, has_list_any}
use Rattle.wt_form.specs.Trees.{Form}
use Rattle.wt_form.specs.Known.{Known}
use Rattle.wt_form.specs.Steps.{Step}
use Rattle.wt_form.specs.Views.{form_seen}
use Rattle.wt_form.specs.declared.form.Form.{Form as CodeForm}
use Rattle.wt_stay.proofs.Exist.{step_exists}
use Rattle.wt_stay.proofs.NoGreater.{step_no_greater}
use Rattle.wt_form_table.specs.Entries.{Tables, Goes}
use Rattle.wt_form_table.specs.Spelled.{IsForm}
use Rattle.wt_form_table.proofs.Numbers.{form_stays, one_form}
use Rattle.wt_search.specs.Room.{HasRoom}
use Rattle.wt_search.specs.Found.{AllRoom, Numbered, Grown, GoesBetween}

pub head_tail : {X : Type 0} (xs : List X) (x : X) → 1 ≤ length xs → x ≡ get_or xs 0 x → xs ≡ x ∷ take (length xs - 1) (drop 1 xs)
head_tail [] x l e = let bad : ⊥ = omega (arith, l) in absurd bad
head_tail (y ∷ xs) x l e = ap (λ z. z ∷ xs) (sym e) ∙ ap (λ z. x ∷ z) (sym (take_all (length (y ∷ xs) - 1) xs (omega arith)))

over : {X Y : Type 0} (f : X → Y) (ws ys : List X) → map f (ws ++ ys) ≡ map f ws ++ map f ys
over f [] ys = refl
over f (w ∷ ws) ys = ap (λ l. f w ∷ l) (over f ws ys)

pub map_join : {X Y : Type 0} (f : X → Y) (xs ys zs : List X) → zs ≡ xs ++ ys → map f zs ≡ map f xs ++ map f ys
map_join f xs ys zs e = ap (map f) e ∙ over f xs ys

-- numbers stay, and one form more
numbers_stay : (T U : Tables) → Goes T U → (fs : List Form) (ns : List ℕ) → Numbered T fs ns → Numbered U fs ns
numbers_stay T U g [] [] h = tt
numbers_stay T U g (f ∷ fs) (n ∷ ns) h = (form_stays T U g n f h.0, numbers_stay T U g fs ns h.1)
numbers_stay T U g [] (n ∷ ns) h = absurd h
numbers_stay T U g (f ∷ fs) [] h = absurd h

numbered_more : (T : Tables) (f : Form) (n : ℕ) (fs : List Form) (ns : List ℕ) → Numbered T fs ns → IsForm T n f → Numbered T (fs ++ f ∷ []) (ns ++ n ∷ [])
numbered_more T f n [] [] h i = (i, tt)
numbered_more T f n (g ∷ fs) (m ∷ ns) h i = (h.0, numbered_more T f n fs ns h.1 i)
numbered_more T f n [] (m ∷ ns) h i = absurd h
numbered_more T f n (g ∷ fs) [] h i = absurd h

-- a form whose number is there is there
number_has : (T : Tables) (f : Form) (n : ℕ) (fs : List Form) (ns : List ℕ) → Numbered T fs ns → IsForm T n f → Has n ns → Has f fs
number_has T f n [] [] h i m = absurd m
number_has T f n (g ∷ fs) (k ∷ ns) h i (inl e) = inl (one_form T n f g i (subst (λ z. IsForm T z g) (sym e) h.0))
number_has T f n (g ∷ fs) (k ∷ ns) h i (inr m) = inr (number_has T f n fs ns h.1 i m)
number_has T f n [] (k ∷ ns) h i m = absurd h
number_has T f n (g ∷ fs) [] h i m = absurd h

-- the form is new
pub numbered_new : (T U : Tables) (f c : Form) (n : ℕ) (fs fs' : List Form) (ns ns' : List ℕ) → Numbered T fs ns → Goes T U → IsForm U n f → c ≡ f → fs' ≡ fs ++ c ∷ [] → ns' ≡ ns ++ n ∷ [] → Numbered U fs' ns'
numbered_new T U f c n fs fs' ns ns' h g i e a b =
    subst (Numbered U fs') (sym b) (subst (λ z. Numbered U z (ns ++ n ∷ [])) (sym (a ∙ ap (λ z. fs ++ z ∷ []) e)) (numbered_more U f n fs ns (numbers_stay T U g fs ns h) i))

-- the form was there
pub numbered_old : (T U : Tables) (fs : List Form) (ns ns' : List ℕ) → Numbered T fs ns → Goes T U → ns' ≡ ns → Numbered U fs ns'
numbered_old T U fs ns ns' h g e = subst (Numbered U fs) (sym e) (numbers_stay T U g fs ns h)

pub is_there : (eq : ℕ → ℕ → Bool) (sound : (m n : ℕ) → eq m n ≡ true → m ≡ n) (T U : Tables) (f : Form) (n : ℕ) (fs : List Form) (ns : List ℕ) → Numbered T fs ns → Goes T U → IsForm U n f → list_any (eq n) ns ≡ true → Has f fs
is_there eq sound T U f n fs ns h g i a =
    let r = has_list_any (eq n) ns a in
    number_has U f n fs ns (numbers_stay T U g fs ns h) i (subst (λ z. Has z ns) (sym (sound n r.0 r.2)) r.1)

pub inserted_old : (eq : ℕ → ℕ → Bool) (n : ℕ) (ns ns' : List ℕ) → ns' ≡ insert_key eq ns n → list_any (eq n) ns ≡ true → ns' ≡ ns
inserted_old eq n ns ns' e a = e ∙ ap (λ b. if b then ns else ns ++ n ∷ []) a

pub inserted_new : (eq : ℕ → ℕ → Bool) (n : ℕ) (ns ns' : List ℕ) → ns' ≡ insert_key eq ns n → list_any (eq n) ns ≡ false → ns' ≡ ns ++ n ∷ []
inserted_new eq n ns ns' e a = e ∙ ap (λ b. if b then ns else ns ++ n ∷ []) a

-- forms behind the first few
pub joined_behind : {X Y : Type 0} (f : X → Y) (n : ℕ) (xs ys zs : List X) → n ≤ length xs → zs ≡ xs ++ ys → drop n (map f zs) ≡ drop n (map f xs) ++ map f ys
joined_behind f n xs ys zs l e = ap (drop n) (map_join f xs ys zs e) ∙ drop-append-le n (map f xs) (map f ys) (subst (λ k. n ≤ k) (sym (length-map xs f)) l)

pub has_behind : {X : Type 0} (x : X) (n : ℕ) (xs : List X) → Has x (drop n xs) → Has x xs
has_behind x zero xs h = h
has_behind x (suc n) [] h = h
has_behind x (suc n) (y ∷ xs) h = inr (has_behind x n xs h)

pub has_first : {X Y : Type 0} (f : X → Y) (y : Y) (n : ℕ) (xs : List X) → Has y (map f (take n xs)) → Has y (map f xs)
has_first f y zero xs h = absurd h
has_first f y (suc n) [] h = absurd h
has_first f y (suc n) (x ∷ xs) (inl e) = inl e
has_first f y (suc n) (x ∷ xs) (inr h) = inr (has_first f y n xs h)

nothing_behind : {X : Type 0} (n : ℕ) (xs : List X) → length xs ≤ n → drop n xs ≡ []
nothing_behind zero [] l = refl
nothing_behind zero (x ∷ xs) l = let bad : ⊥ = omega (arith, l) in absurd bad
nothing_behind (suc n) [] l = refl
nothing_behind (suc n) (x ∷ xs) l = nothing_behind n xs (omega (arith, l))

-- few forms, one more of which has no number
pub numbered_few : {X : Type 0} (f : X → Form) (T : Tables) (n : ℕ) (xs ys : List X) (ns : List ℕ) → length xs ≤ n → length ys ≤ n → Numbered T (drop n (map f xs)) ns → Numbered T (drop n (map f ys)) ns
numbered_few f T n xs ys ns a b h =
    subst (λ z. Numbered T z ns) (nothing_behind n (map f xs) (subst (λ k. k ≤ n) (sym (length-map xs f)) a) ∙ sym (nothing_behind n (map f ys) (subst (λ k. k ≤ n) (sym (length-map ys f)) b))) h

-- how forms grow
pub grown_none : (old : List Form) (P : Form → Type 0) → ((g : Form) → P g → Has g old) → Grown old old P
grown_none old P there = record { rest = []; behind = sym (append-nil old); has = λ g. (λ h. inl h, λ h. back g h) }
  where
    back : (g : Form) → Has g old ⊎ P g → Has g old
    back g (inl h) = h
    back g (inr p) = there g p

pub grown_one : (old new : List Form) (f c : Form) → new ≡ old ++ c ∷ [] → c ≡ f → Grown old new (λ g. g ≡ f)
grown_one old new f c e k = record { rest = c ∷ []; behind = e; has = λ g. (λ h. there g (has_split g old (c ∷ []) (subst (Has g) e h)), λ h. subst (Has g) (sym e) (back g h)) }
  where
    there : (g : Form) → Has g old ⊎ Has g (c ∷ []) → Has g old ⊎ (g ≡ f)
    there g (inl h) = inl h
    there g (inr (inl q)) = inr (q ∙ k)
    there g (inr (inr h)) = absurd h

    back : (g : Form) → Has g old ⊎ (g ≡ f) → Has g (old ++ c ∷ [])
    back g (inl h) = has_left g old (c ∷ []) h
    back g (inr q) = has_right g old (c ∷ []) (inl (q ∙ sym k))

pub grown_then : (a b c : List Form) (P Q R : Form → Type 0) → ((g : Form) → P g ⊎ Q g → R g) → ((g : Form) → R g → P g ⊎ Q g) → Grown a b P → Grown b c Q → Grown a c R
grown_then a b c P Q R f u p q = record { rest = p.rest ++ q.rest; behind = q.behind ∙ ap (λ z. z ++ q.rest) p.behind ∙ append_assoc a p.rest q.rest; has = λ g. (λ h. there g ((q.has g).0 h), λ h. back g h) }
  where
    first : (g : Form) → Has g a ⊎ P g → Has g a ⊎ R g
    first g (inl h) = inl h
    first g (inr x) = inr (f g (inl x))

    there : (g : Form) → Has g b ⊎ Q g → Has g a ⊎ R g
    there g (inl h) = first g ((p.has g).0 h)
    there g (inr x) = inr (f g (inr x))

    second : (g : Form) → P g ⊎ Q g → Has g c
    second g (inl x) = (q.has g).1 (inl ((p.has g).1 (inr x)))
    second g (inr x) = (q.has g).1 (inr x)

    back : (g : Form) → Has g a ⊎ R g → Has g c
    back g (inl h) = (q.has g).1 (inl ((p.has g).1 (inl h)))
    back g (inr r) = second g (u g r)

pub grown_said : (a b : List Form) (P Q : Form → Type 0) → ((g : Form) → P g → Q g) → ((g : Form) → Q g → P g) → Grown a b P → Grown a b Q
grown_said a b P Q f u p = record { rest = p.rest; behind = p.behind; has = λ g. (λ h. there g ((p.has g).0 h), λ h. (p.has g).1 (back g h)) }
  where
    there : (g : Form) → Has g a ⊎ P g → Has g a ⊎ Q g
    there g (inl h) = inl h
    there g (inr x) = inr (f g x)

    back : (g : Form) → Has g a ⊎ Q g → Has g a ⊎ P g
    back g (inl h) = inl h
    back g (inr x) = inr (u g x)

-- one form, and then the others
pub grown_list : (a b c : List Form) (forms rest : List CodeForm) (first : CodeForm) → forms ≡ first ∷ rest → Grown a b (λ g. g ≡ form_seen first) → Grown b c (λ g. Has g (map form_seen rest)) → Grown a c (λ g. Has g (map form_seen forms))
grown_list a b c forms rest first e p q = subst (λ z. Grown a c (λ g. Has g (map form_seen z))) (sym e) (grown_then a b c (λ g. g ≡ form_seen first) (λ g. Has g (map form_seen rest)) (λ g. Has g (map form_seen (first ∷ rest))) (λ g h. h) (λ g h. h) p q)

-- room
pub room_at : {X : Type 0} (P : Form → Type 0) (f : X → Form) (xs : List X) (i : ℕ) (x : X) → ((g : Form) → Has g (map f xs) → P g) → i < length xs → x ≡ get_or xs i x → P (f x)
room_at P f [] i x all l e = let bad : ⊥ = omega (arith, l) in absurd bad
room_at P f (y ∷ xs) zero x all l e = subst (λ z. P (f z)) (sym e) (all (f y) (inl refl))
room_at P f (y ∷ xs) (suc i) x all l e = room_at P f xs i x (λ g h. all g (inr h)) (omega (arith, l)) e

pub room_grows : (old new : List Form) (P : Form → Type 0) → Grown old new P → AllRoom old → ((g : Form) → P g → HasRoom g) → AllRoom new
room_grows old new P grown all more g h = go ((grown.has g).0 h)
  where
    go : Has g old ⊎ P g → HasRoom g
    go (inl m) = all g m
    go (inr p) = more g p

-- at a place of the first forms
pub at_first : {X : Type 0} (P : X → Type 0) (i : ℕ) (old rest : List X) → i < length old → At P i (old ++ rest) → At P i old
at_first P i [] rest l h = let bad : ⊥ = omega (arith, l) in absurd bad
at_first P zero (x ∷ old) rest l h = h
at_first P (suc i) (x ∷ old) rest l h = at_first P i old rest (omega (arith, l)) h

pub at_longer : {X : Type 0} (P : X → Type 0) (i : ℕ) (old rest : List X) → At P i old → At P i (old ++ rest)
at_longer P i [] rest h = absurd h
at_longer P zero (x ∷ old) rest h = h
at_longer P (suc i) (x ∷ old) rest h = at_longer P i old rest h

pub at_has : {X : Type 0} (P : X → Type 0) (i : ℕ) (xs : List X) → At P i xs → (x : X) × Has x xs × P x
at_has P i [] h = absurd h
at_has P zero (x ∷ xs) h = (x, inl refl, h)
at_has P (suc i) (x ∷ xs) h = let r = at_has P i xs h in (r.0, inr r.1, r.2)

-- one place more
pub grown_place : (K : Known) (first i : ℕ) (old mid new : List Form) → first ≤ i → i < length old → Grown old mid (GoesBetween K old first i) → Grown mid new (λ g. At (λ h. Step K h g) i mid) → Grown old new (GoesBetween K old first (i + 1))
grown_place K first i old mid new a l p q =
    grown_then old mid new (GoesBetween K old first i) (λ g. At (λ h. Step K h g) i mid) (GoesBetween K old first (i + 1)) there back p q
  where
    there : (g : Form) → GoesBetween K old first i g ⊎ At (λ h. Step K h g) i mid → GoesBetween K old first (i + 1) g
    there g (inl b) = let k = b.2 in (b.0, b.1, omega (arith, k), b.3)
    there g (inr h) = (i, a, omega arith, at_first (λ f. Step K f g) i old p.rest l (subst (At (λ f. Step K f g) i) p.behind h))

    back : (g : Form) → GoesBetween K old first (i + 1) g → GoesBetween K old first i g ⊎ At (λ h. Step K h g) i mid
    back g b = go (cases_order b.0 i)
      where
        go : (b.0 ≡ i) ⊎ ((b.0 < i) ⊎ (i < b.0)) → GoesBetween K old first i g ⊎ At (λ h. Step K h g) i mid
        go (inl e) = inr (subst (At (λ f. Step K f g) i) (sym p.behind) (at_longer (λ f. Step K f g) i old p.rest (subst (λ z. At (λ f. Step K f g) z old) e b.3)))
        go (inr (inl s)) = inl (b.0, b.1, s, b.3)
        go (inr (inr s)) = let k = b.2 in let bad : ⊥ = omega (arith, k, s) in absurd bad

pub grown_start : (K : Known) (first : ℕ) (old : List Form) → Grown old old (GoesBetween K old first first)
grown_start K first old = grown_none old (GoesBetween K old first first) (λ g b. none g b.0 b.1 b.2)
  where
    none : (g : Form) (i : ℕ) → first ≤ i → i < first → Has g old
    none g i a b = let bad : ⊥ = omega (arith, a, b) in absurd bad

pub not_true : (b r : Bool) → r ≡ not b → r ≡ true → b ≡ false
not_true true r e t = sym t ∙ e
not_true false r e t = refl

pub not_false : (b r : Bool) → r ≡ not b → r ≡ false → b ≡ true
not_false true r e t = refl
not_false false r e t = sym t ∙ e

-- a step keeps room
pub room_stays : (K : Known) (f g : Form) → HasRoom f → Step K f g → HasRoom g
room_stays K f g room step = let n = step_no_greater K f g step in let m = room.1 in (step_exists K f g room.0 step, omega (arith, n, m))
