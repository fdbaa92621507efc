-- Placing keeps a regular plan regular.
use Rattle.std.proofs.Common.{◌≡◌, ◌≢◌, ℕ, zero, suc, ◌+◌, ◌-◌, ◌<◌, ◌≤◌, nat_lt, ◌^◌, Bool, true, false, ◌&&◌, not, cond, List, [], ◌∷◌, ◌++◌, map, filter, length, length-append, get_or, refl, sym, ap, subst, ◌∙◌, arith}
use Rattle.std.specs.List.{list_all}
use Rattle.std.proofs.lemmas.Bool.{ltb-true, ltb-false}
use Rattle.wt_bag.specs.Bags.{Each}
use Rattle.wt_bag.specs.Choices.{Apart}
use Rattle.wt_bag.proofs.EachLaws.{each_implies, each_append, each_map, each_filter, each_filter_map}
use Rattle.wt_pred.specs.Columns.{occurring}
use Rattle.wt_schema.specs.declared.schema.ColKind.{ColKind}
use Rattle.wt_schema.specs.declared.schema.ColKind.TheVariants.{Int}
use Rattle.wt_schema.specs.declared.schema.Table.{Table}
use Rattle.wt_schema.specs.Lawful.{width_of}
use Rattle.wt_plan.specs.Tree.{PlanTree, table, proj, filtered, inner_join, left_join, in_sub, dedup}
use Rattle.wt_plan.specs.Measures.{width}
use Rattle.wt_plan.specs.WellFormed.{Places, Pairs, PlacesFit, WellFormed}
use Rattle.wt_plan.specs.Regular.{upto, kind_at, kinds_at, column_kinds, table_kinds, plan_kinds, Typed, RegularFilter, RegularNodes, Regular}
use Rattle.wt_plan.proofs.Upto.{length_map}
use Rattle.wt_place.specs.Placing.{Condition, test, member, over, moved, stand, in_left, in_right, in_both, settle, conditions, bare, placed}
use Rattle.wt_place.proofs.Measured.{cost_kept}
use Rattle.wt_place.proofs.NarrowKept.{narrow_placed, width_placed}
use Rattle.wt_place.proofs.PlaceLaw.{width_settle, width_bare}

-- ---- kinds at places

pub kind_left : (ks ms : List ColKind) (k : ℕ) → k < length ks → kind_at (ks ++ ms) k ≡ kind_at ks k
kind_left [] ms k h = absurd (let bad : ⊥ = omega (arith, h) in bad)
kind_left (x ∷ ks) ms zero h = refl
kind_left (x ∷ ks) ms (suc k) h = kind_left ks ms k (omega (arith, h))

pub kind_right : (ks ms : List ColKind) (k : ℕ) → length ks ≤ k → kind_at (ks ++ ms) k ≡ kind_at ms (k - length ks)
kind_right [] ms k h = ap (kind_at ms) (omega arith)
kind_right (x ∷ ks) ms zero h = absurd (let bad : ⊥ = omega (arith, h) in bad)
kind_right (x ∷ ks) ms (suc k) h = kind_right ks ms k (omega (arith, h)) ∙ ap (kind_at ms) (omega arith)

pub kinds_left : (ks ms : List ColKind) (n : ℕ) → length ks ≡ n → (cols : List ℕ) → Each (λ k. k < n) cols → kinds_at (ks ++ ms) cols ≡ kinds_at ks cols
kinds_left ks ms n e [] h = refl
kinds_left ks ms n e (k ∷ cols) h = λ i. kind_left ks ms k (omega (arith, e, h.0)) i ∷ kinds_left ks ms n e cols h.1 i

pub kinds_down : (ks ms : List ColKind) (n : ℕ) → length ks ≡ n → (cols : List ℕ) → Each (λ k. n ≤ k) cols → kinds_at (ks ++ ms) cols ≡ kinds_at ms (map (λ k. k - n) cols)
kinds_down ks ms n e [] h = refl
kinds_down ks ms n e (k ∷ cols) h = λ i. (kind_right ks ms k (omega (arith, e, h.0)) ∙ ap (λ m. kind_at ms (k - m)) e) i ∷ kinds_down ks ms n e cols h.1 i

pub kinds_up : (ks ms : List ColKind) (n : ℕ) → length ks ≡ n → (cols : List ℕ) → kinds_at (ks ++ ms) (map (λ k. n + k) cols) ≡ kinds_at ms cols
kinds_up ks ms n e [] = refl
kinds_up ks ms n e (k ∷ cols) =
    let high : length ks ≤ n + k = omega (arith, e) in
    let is : (n + k) - length ks ≡ k = omega (arith, e) in
    λ i. (kind_right ks ms (n + k) high ∙ ap (kind_at ms) is) i ∷ kinds_up ks ms n e cols i

-- ---- lists of places

pub apart_map : (f : ℕ → ℕ) (P : ℕ → Type 0) → ((x y : ℕ) → P x → P y → f x ≡ f y → x ≡ y) → (xs : List ℕ) → Each P xs → Apart xs → Apart (map f xs)
apart_map f P inj [] p h = tt
apart_map f P inj (x ∷ xs) p h = (each_map (λ y. f x ≢ y) f xs (others xs p.1 h.0), apart_map f P inj xs p.1 h.1)
  where
    others : (ys : List ℕ) → Each P ys → Each (λ y. x ≢ y) ys → Each (λ y. f x ≢ f y) ys
    others [] q d = tt
    others (y ∷ ys) q d = ((λ e. d.0 (inj x y p.0 q.0 e)), others ys q.1 d.1)

pub low_all : (n : ℕ) (cols : List ℕ) → list_all (λ k. nat_lt k n) cols ≡ true → Each (λ k. k < n) cols
low_all n [] e = tt
low_all n (k ∷ cols) e = here (nat_lt k n) refl e (low_all n cols)
  where
    here : (b : Bool) → nat_lt k n ≡ b → (b && list_all (λ j. nat_lt j n) cols) ≡ true → (list_all (λ j. nat_lt j n) cols ≡ true → Each (λ j. j < n) cols) → (k < n) × Each (λ j. j < n) cols
    here true f e more = (ltb-true k n f, more e)
    here false f e more = cc

pub high_all : (n : ℕ) (cols : List ℕ) → list_all (λ k. not (nat_lt k n)) cols ≡ true → Each (λ k. n ≤ k) cols
high_all n [] e = tt
high_all n (k ∷ cols) e = here (nat_lt k n) refl e (high_all n cols)
  where
    here : (b : Bool) → nat_lt k n ≡ b → (not b && list_all (λ j. not (nat_lt j n)) cols) ≡ true → (list_all (λ j. not (nat_lt j n)) cols ≡ true → Each (λ j. n ≤ j) cols) → (n ≤ k) × Each (λ j. n ≤ j) cols
    here false f e more = (ltb-false k n f, more e)
    here true f e more = cc

pub each_passing : {X : Type 0} (P : X → Type 0) (p : X → Bool) (xs : List X) → Each (λ x. p x ≡ true → P x) xs → Each P (filter p xs)
each_passing P p [] h = tt
each_passing P p (x ∷ xs) h = here (p x) refl (each_passing P p xs h.1)
  where
    here : (b : Bool) → p x ≡ b → Each P (filter p xs) → Each P (cond b (x ∷ filter p xs) (filter p xs))
    here true e rest = (h.0 e, rest)
    here false e rest = rest

second_true : (b c : Bool) → (not b && c) ≡ true → c ≡ true
second_true true c e = cc
second_true false c e = e

not_empty : (f : ℕ → ℕ) (xs : List ℕ) → xs ≢ [] → map f xs ≢ []
not_empty f [] h e = h refl
not_empty f (x ∷ xs) h e = cc

table_width : (S : List Table) (n : ℕ) → length (table_kinds S n) ≡ width_of S n
table_width [] n = refl
table_width (t ∷ S) zero = length_map _ t.columns
table_width (t ∷ S) (suc n) = table_width S n

module _ (S : List Table) where
  pub kinds_length : (p : PlanTree) → RegularNodes S p → length (plan_kinds S p) ≡ width p
  kinds_length (table n w) h = table_width S n ∙ sym h.1
  kinds_length (proj cols p) h = length_map (kind_at (plan_kinds S p)) cols
  kinds_length (filtered q cols p) h = kinds_length p h.1
  kinds_length (inner_join a b l r) h = omega (arith, length-append (plan_kinds S l) (plan_kinds S r), kinds_length l h.1, kinds_length r h.2)
  kinds_length (left_join a b l r) h = omega (arith, length-append (plan_kinds S l) (plan_kinds S r), kinds_length l h.1, kinds_length r h.2)
  kinds_length (in_sub cols l r) h = kinds_length l h.2
  kinds_length (dedup p) h = kinds_length p h.1

  -- a condition over an operand of these kinds and this width
  abbrev pub Good : List ColKind → ℕ → Condition → Type 0
  Good ks w (test q cols) = Places w cols × Each (λ k. k < length cols) (occurring q) × RegularFilter ks q cols
  Good ks w (member cols r) = Places w cols × (length cols ≡ width r) × (kinds_at ks cols ≡ plan_kinds S r) × (width r ≤ 16384) × PlacesFit r × RegularNodes S r

  good_over : (ks : List ColKind) (w : ℕ) (c : Condition) → Good ks w c → Each (λ k. k < w) (over c)
  good_over ks w (test q cols) h = h.0.within
  good_over ks w (member cols r) h = h.0.within

  -- the same columns are of the same kinds elsewhere
  good_there : (ks ms : List ColKind) (w v : ℕ) (c : Condition) → kinds_at ms (over c) ≡ kinds_at ks (over c) → Each (λ k. k < v) (over c) → Good ks w c → Good ms v c
  good_there ks ms w v (test q cols) e h g = (
    record { some = g.0.some; within = h },
    g.1,
    record { apart = g.2.apart; in_order = g.2.in_order; no_and = g.2.no_and; typed = subst (λ k. Typed k q) (sym e) g.2.typed; constants = g.2.constants },
  )
  good_there ks ms w v (member cols r) e h g = (record { some = g.0.some; within = h }, g.1, e ∙ g.2, g.3, g.4, g.5)

  -- renumbered columns
  good_moved : (f : ℕ → ℕ) (P : ℕ → Type 0) → ((x y : ℕ) → P x → P y → f x ≡ f y → x ≡ y) → (ks ms : List ColKind) (w v : ℕ) (c : Condition) → Each P (over c)
      → kinds_at ms (map f (over c)) ≡ kinds_at ks (over c) → Each (λ k. k < v) (map f (over c)) → Good ks w c → Good ms v (moved f c)
  good_moved f P inj ks ms w v (test q cols) p e h g =
      let n : length (map f cols) ≡ length cols = length_map f cols in (
        record { some = not_empty f cols g.0.some; within = h },
        subst (λ m. Each (λ k. k < m) (occurring q)) (sym n) g.1,
        record { apart = apart_map f P inj cols p g.2.apart; in_order = g.2.in_order ∙ ap upto (sym n); no_and = g.2.no_and; typed = subst (λ k. Typed k q) (sym e) g.2.typed; constants = g.2.constants },
      )
  good_moved f P inj ks ms w v (member cols r) p e h g = (record { some = not_empty f cols g.0.some; within = h }, length_map f cols ∙ g.1, e ∙ g.2, g.3, g.4, g.5)

  module _ (ks ms : List ColKind) (n m : ℕ) (is : length ks ≡ n) where
    -- a condition of a join whose columns are all on the left, all on the right, and conditions of the operands above it
    good_left : (c : Condition) → Good (ks ++ ms) (n + m) c → in_left n c ≡ true → Good ks n c
    good_left c g e = good_there (ks ++ ms) ks (n + m) n c (sym (kinds_left ks ms n is (over c) (low_all n (over c) e))) (low_all n (over c) e) g

    good_right : (c : Condition) → Good (ks ++ ms) (n + m) c → in_right n c ≡ true → Good ms m (moved (λ k. k - n) c)
    good_right c g e =
        let high = high_all n (over c) (second_true (in_left n c) (list_all (λ k. not (nat_lt k n)) (over c)) e) in
        good_moved (λ k. k - n) (λ k. n ≤ k) (λ x y h k same. omega (arith, h, k, same)) (ks ++ ms) ms (n + m) m c high
        (sym (kinds_down ks ms n is (over c) high))
        (lower (over c) high (good_over (ks ++ ms) (n + m) c g)) g
      where
        lower : (cols : List ℕ) → Each (λ k. n ≤ k) cols → Each (λ k. k < n + m) cols → Each (λ k. k < m) (map (λ k. k - n) cols)
        lower [] h k = tt
        lower (x ∷ cols) h k = (omega (arith, h.0, k.0), lower cols h.1 k.1)

    good_above_left : (c : Condition) → Good ks n c → Good (ks ++ ms) (n + m) c
    good_above_left c g =
        let low = good_over ks n c g in
        good_there ks (ks ++ ms) n (n + m) c (kinds_left ks ms n is (over c) low) (each_implies (λ k. k < n) (λ k. k < n + m) (over c) (λ k h. omega (arith, h)) low) g

    good_above_right : (c : Condition) → Good ms m c → Good (ks ++ ms) (n + m) (moved (λ k. n + k) c)
    good_above_right c g =
        good_moved (λ k. n + k) (λ k. Unit {0}) (λ x y h k same. omega (arith, same)) ms (ks ++ ms) m (n + m) c (all_unit (over c)) (kinds_up ks ms n is (over c))
        (each_map (λ k. k < n + m) (λ k. n + k) (over c) (each_implies (λ k. k < m) (λ k. n + k < n + m) (over c) (λ k h. omega (arith, h)) (good_over ms m c g))) g
      where
        all_unit : (cols : List ℕ) → Each (λ k. Unit {0}) cols
        all_unit [] = tt
        all_unit (x ∷ cols) = (tt, all_unit cols)

  -- ---- zones

  pub record Fine (p q : PlanTree) : Type 0 where
    pub places : PlacesFit q
    pub nodes : RegularNodes S q
    pub kinds : plan_kinds S q ≡ plan_kinds S p

  fine_stand : (cs : List Condition) (p : PlanTree) → Each (Good (plan_kinds S p) (width p)) cs → PlacesFit p → RegularNodes S p → Fine p (stand cs p)
  fine_stand [] p h f n = record { places = f; nodes = n; kinds = refl }
  fine_stand (test q cols ∷ cs) p h f n =
      let k = fine_stand cs (filtered q cols p) h.1 (h.0.0, h.0.1, f) (h.0.2, n) in
      record { places = k.places; nodes = k.nodes; kinds = k.kinds }
  fine_stand (member cols r ∷ cs) p h f n =
      let k = fine_stand cs (in_sub cols p r) h.1 (h.0.0, h.0.1, f, h.0.4) (h.0.2, h.0.3, n, h.0.5) in
      record { places = k.places; nodes = k.nodes; kinds = k.kinds }

  join_pairs : (l r m s : PlanTree) (a b : List ℕ) → width m ≡ width l → width s ≡ width r → Pairs (width l) (width r) a b → Pairs (width m) (width s) a b
  join_pairs l r m s a b e f h = subst (λ w. Pairs w (width s) a b) (sym e) (subst (λ w. Pairs (width l) w a b) (sym f) h)

  join_kinds : (l r m s : PlanTree) (a b : List ℕ) → plan_kinds S m ≡ plan_kinds S l → plan_kinds S s ≡ plan_kinds S r → kinds_at (plan_kinds S l) a ≡ kinds_at (plan_kinds S r) b → kinds_at (plan_kinds S m) a ≡ kinds_at (plan_kinds S s) b
  join_kinds l r m s a b e f h = ap (λ k. kinds_at k a) e ∙ h ∙ ap (λ k. kinds_at k b) (sym f)

  good_at : (p q : PlanTree) (cs : List Condition) → plan_kinds S q ≡ plan_kinds S p → width q ≡ width p → Each (Good (plan_kinds S p) (width p)) cs → Each (Good (plan_kinds S q) (width q)) cs
  good_at p q cs e f h = subst (λ ks. Each (Good ks (width q)) cs) (sym e) (subst (λ w. Each (Good (plan_kinds S p) w) cs) (sym f) h)

  fine_settle : (cs : List Condition) (p : PlanTree) → Each (Good (plan_kinds S p) (width p)) cs → PlacesFit p → RegularNodes S p → Fine p (settle cs p)
  fine_settle cs (table n w) h f k = fine_stand cs (table n w) h f k
  fine_settle cs (proj cols p) h f k = fine_stand cs (proj cols p) h f k
  fine_settle cs (dedup p) h f k = fine_stand cs (dedup p) h f k
  fine_settle cs (filtered q cols p) h f k = fine_stand cs (filtered q cols p) h f k
  fine_settle cs (in_sub cols l r) h f k = fine_stand cs (in_sub cols l r) h f k
  fine_settle cs (inner_join a b l r) h f k =
      let n = width l in
      let is : length (plan_kinds S l) ≡ n = kinds_length l k.1 in
      let ls = filter (in_left n) cs in
      let rs = map (moved (λ k. k - n)) (filter (in_right n) cs) in
      let bs = filter (in_both n) cs in
      let whole = Good (plan_kinds S l ++ plan_kinds S r) (n + width r) in
      let fl = fine_settle ls l (each_passing (Good (plan_kinds S l) n) (in_left n) cs (each_implies whole (λ c. in_left n c ≡ true → Good (plan_kinds S l) n c) cs (λ c g e. good_left (plan_kinds S l) (plan_kinds S r) n (width r) is c g e) h)) f.1 k.1 in
      let fr = fine_settle rs r (each_filter_map (Good (plan_kinds S r) (width r)) (moved (λ k. k - n)) (in_right n) cs (each_implies whole (λ c. in_right n c ≡ true → Good (plan_kinds S r) (width r) (moved (λ k. k - n) c)) cs (λ c g e. good_right (plan_kinds S l) (plan_kinds S r) n (width r) is c g e) h)) f.2 k.2 in
      let join = inner_join a b (settle ls l) (settle rs r) in
      let kinds : plan_kinds S join ≡ plan_kinds S (inner_join a b l r) = λ i. fl.kinds i ++ fr.kinds i in
      let wide : width join ≡ width (inner_join a b l r) = λ i. width_settle ls l i + width_settle rs r i in
      let above = fine_stand bs join (good_at (inner_join a b l r) join bs kinds wide (each_filter whole (in_both n) cs h))
      (join_pairs l r (settle ls l) (settle rs r) a b (width_settle ls l) (width_settle rs r) f.0, fl.places, fr.places)
      (join_kinds l r (settle ls l) (settle rs r) a b fl.kinds fr.kinds k.0, fl.nodes, fr.nodes) in
      record { places = above.places; nodes = above.nodes; kinds = above.kinds ∙ kinds }
  fine_settle cs (left_join a b l r) h f k =
      let n = width l in
      let is : length (plan_kinds S l) ≡ n = kinds_length l k.1 in
      let ls = filter (in_left n) cs in
      let bs = filter (λ c. not (in_left n c)) cs in
      let whole = Good (plan_kinds S l ++ plan_kinds S r) (n + width r) in
      let fl = fine_settle ls l (each_passing (Good (plan_kinds S l) n) (in_left n) cs (each_implies whole (λ c. in_left n c ≡ true → Good (plan_kinds S l) n c) cs (λ c g e. good_left (plan_kinds S l) (plan_kinds S r) n (width r) is c g e) h)) f.1 k.1 in
      let join = left_join a b (settle ls l) r in
      let kinds : plan_kinds S join ≡ plan_kinds S (left_join a b l r) = λ i. fl.kinds i ++ plan_kinds S r in
      let wide : width join ≡ width (left_join a b l r) = λ i. width_settle ls l i + width r in
      let above = fine_stand bs join (good_at (left_join a b l r) join bs kinds wide (each_filter whole (λ c. not (in_left n c)) cs h))
      (join_pairs l r (settle ls l) r a b (width_settle ls l) refl f.0, fl.places, f.2)
      (join_kinds l r (settle ls l) r a b fl.kinds refl k.0, fl.nodes, k.2) in
      record { places = above.places; nodes = above.nodes; kinds = above.kinds ∙ kinds }

  pub record Zone (p : PlanTree) : Type 0 where
    pub good : Each (Good (plan_kinds S p) (width p)) (conditions p)
    pub fine : Fine p (bare p)

  placed_zone : (p : PlanTree) → Zone p → Fine p (settle (conditions p) (bare p))
  placed_zone p z =
      let k = fine_settle (conditions p) (bare p) (good_at p (bare p) (conditions p) z.fine.kinds (width_bare p) z.good) z.fine.places z.fine.nodes in
      record { places = k.places; nodes = k.nodes; kinds = k.kinds ∙ z.fine.kinds }

  zone : (p : PlanTree) → PlacesFit p → RegularNodes S p → Zone p
  zone (table n w) f k = record { good = tt; fine = record { places = f; nodes = k; kinds = refl } }
  zone (proj cols p) f k =
      let q = placed_zone p (zone p f.1 k.1) in
      record {
        good = tt;
        fine = record {
          places = (subst (λ w. Places w cols) (sym (width_placed p)) f.0, q.places);
          nodes = (k.0, q.nodes);
          kinds = ap (λ ks. kinds_at ks cols) q.kinds;
        };
      }
  zone (dedup p) f k =
      let q = placed_zone p (zone p f k.1) in
      record { good = tt; fine = record { places = q.places; nodes = (subst (λ w. w ≤ 16384) (sym (width_placed p)) k.0, q.nodes); kinds = q.kinds } }
  zone (filtered q cols p) f k =
      let z = zone p f.2 k.1 in
      record {
        good = each_append (Good (plan_kinds S p) (width p)) (conditions p) (test q cols ∷ []) z.good ((f.0, f.1, k.0), tt);
        fine = record { places = z.fine.places; nodes = z.fine.nodes; kinds = z.fine.kinds };
      }
  zone (in_sub cols l r) f k =
      let z = zone l f.2 k.2 in
      let q = placed_zone r (zone r f.3 k.3) in
      record {
        good = each_append (Good (plan_kinds S l) (width l)) (conditions l) (member cols (settle (conditions r) (bare r)) ∷ []) z.good
            ((f.0, f.1 ∙ sym (width_placed r), k.0 ∙ sym q.kinds, subst (λ w. w ≤ 16384) (sym (width_placed r)) k.1, q.places, q.nodes), tt);
        fine = record { places = z.fine.places; nodes = z.fine.nodes; kinds = z.fine.kinds };
      }
  zone (inner_join a b l r) f k =
      let zl = zone l f.1 k.1 in
      let zr = zone r f.2 k.2 in
      let is : length (plan_kinds S l) ≡ width l = kinds_length l k.1 in
      let whole = Good (plan_kinds S l ++ plan_kinds S r) (width l + width r) in
      record {
        good = each_append whole (conditions l) (map (moved (λ k. width l + k)) (conditions r))
            (each_implies (Good (plan_kinds S l) (width l)) whole (conditions l) (λ c g. good_above_left (plan_kinds S l) (plan_kinds S r) (width l) (width r) is c g) zl.good)
            (each_map whole (moved (λ k. width l + k)) (conditions r) (each_implies (Good (plan_kinds S r) (width r)) (λ c. whole (moved (λ k. width l + k) c)) (conditions r) (λ c g. good_above_right (plan_kinds S l) (plan_kinds S r) (width l) (width r) is c g) zr.good));
        fine = record {
          places = (join_pairs l r (bare l) (bare r) a b (width_bare l) (width_bare r) f.0, zl.fine.places, zr.fine.places);
          nodes = (join_kinds l r (bare l) (bare r) a b zl.fine.kinds zr.fine.kinds k.0, zl.fine.nodes, zr.fine.nodes);
          kinds = λ i. zl.fine.kinds i ++ zr.fine.kinds i;
        };
      }
  zone (left_join a b l r) f k =
      let zl = zone l f.1 k.1 in
      let q = placed_zone r (zone r f.2 k.2) in
      let is : length (plan_kinds S l) ≡ width l = kinds_length l k.1 in
      let whole = Good (plan_kinds S l ++ plan_kinds S r) (width l + width r) in
      record {
        good = each_implies (Good (plan_kinds S l) (width l)) whole (conditions l) (λ c g. good_above_left (plan_kinds S l) (plan_kinds S r) (width l) (width r) is c g) zl.good;
        fine = record {
          places = (join_pairs l r (bare l) (placed r) a b (width_bare l) (width_placed r) f.0, zl.fine.places, q.places);
          nodes = (join_kinds l r (bare l) (placed r) a b zl.fine.kinds q.kinds k.0, zl.fine.nodes, q.nodes);
          kinds = λ i. zl.fine.kinds i ++ q.kinds i;
        };
      }

  pub regular_placed : (p : PlanTree) → Regular S p → Regular S (placed p)
  regular_placed p h =
      let q = placed_zone p (zone p h.well_formed.places h.nodes) in
      record {
        well_formed = record { places = q.places; narrow = narrow_placed p h.well_formed.narrow; cheap = subst (λ n. n < 2 ^ 32) (sym (cost_kept p)) h.well_formed.cheap };
        nodes = q.nodes;
        few_columns = subst (λ w. w ≤ 16384) (sym (width_placed p)) h.few_columns;
      }
