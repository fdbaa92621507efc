-- A placed plan is placed: its conditions, gathered and put again, stand where they stood.
use Rattle.std.proofs.Common.{◌≡◌, ℕ, ◌+◌, ◌-◌, Bool, true, false, not, List, [], ◌∷◌, ◌++◌, map, filter, refl, sym, ap, subst, ◌∙◌, append_assoc, nat_lt}
use Rattle.std.specs.List.{list_all}
use Rattle.std.proofs.lemmas.List.{append-nil}
use Rattle.wt_bag.specs.Bags.{Each}
use Rattle.wt_bag.proofs.EachLaws.{each_append, each_map, each_for, each_filter, each_filter_map, each_implies}
use Rattle.wt_plan.specs.Tree.{PlanTree, table, proj, filtered, inner_join, left_join, in_sub, dedup}
use Rattle.wt_plan.specs.Measures.{width}
use Rattle.wt_place.specs.Placing.{Condition, test, member, over, moved, stand, in_left, in_right, in_both, settle, conditions, bare, placed}
use Rattle.wt_place.specs.Keeping.{IsPlaced}
use Rattle.wt_place.proofs.PlaceLaw.{width_settle}
use Rattle.wt_placed.proofs.Sorted.{each_passed, two_first, two_second, three_first, three_second, three_third, turned, left_not_right, right_not_left, right_not_both, both_not_right, moved_down, moved_up}

-- a condition whose subquery is placed
abbrev Still : Condition → Type 0
Still (test q cols) = Unit {0}
Still (member cols r) = placed r ≡ r

-- a zone without conditions, where all inside is placed
abbrev Clean : PlanTree → Type 0
Clean (table n w) = Unit {0}
Clean (proj cols p) = placed p ≡ p
Clean (dedup p) = placed p ≡ p
Clean (filtered q cols p) = ⊥
Clean (in_sub cols l r) = ⊥
Clean (inner_join a b l r) = Clean l × Clean r
Clean (left_join a b l r) = Clean l × (placed r ≡ r)

still_moved : (f : ℕ → ℕ) (c : Condition) → Still c → Still (moved f c)
still_moved f (test q cols) h = tt
still_moved f (member cols r) h = h

-- ---- conditions over a plan

bare_stand : (cs : List Condition) (p : PlanTree) → bare (stand cs p) ≡ bare p
bare_stand [] p = refl
bare_stand (test q cols ∷ cs) p = bare_stand cs (filtered q cols p)
bare_stand (member cols r ∷ cs) p = bare_stand cs (in_sub cols p r)

conditions_stand : (cs : List Condition) (p : PlanTree) → Each Still cs → conditions (stand cs p) ≡ conditions p ++ cs
conditions_stand [] p h = sym (append-nil (conditions p))
conditions_stand (test q cols ∷ cs) p h = conditions_stand cs (filtered q cols p) h.1 ∙ append_assoc (conditions p) (test q cols ∷ []) cs
conditions_stand (member cols r ∷ cs) p h =
    conditions_stand cs (in_sub cols p r) h.1 ∙ ap (λ s. (conditions p ++ member cols s ∷ []) ++ cs) h.0 ∙ append_assoc (conditions p) (member cols r ∷ []) cs

-- ---- conditions that are put over a zone

bare_settle : (z : PlanTree) → Clean z → (cs : List Condition) → bare (settle cs z) ≡ z
bare_settle (table n w) k cs = bare_stand cs (table n w)
bare_settle (proj cols p) k cs = bare_stand cs (proj cols p) ∙ ap (proj cols) k
bare_settle (dedup p) k cs = bare_stand cs (dedup p) ∙ ap dedup k
bare_settle (filtered q cols p) k cs = absurd k
bare_settle (in_sub cols l r) k cs = absurd k
bare_settle (inner_join a b l r) k cs =
    let ls = filter (in_left (width l)) cs in
    let rs = map (moved (λ k. k - width l)) (filter (in_right (width l)) cs) in
    bare_stand (filter (in_both (width l)) cs) (inner_join a b (settle ls l) (settle rs r)) ∙ (λ i. inner_join a b (bare_settle l k.0 ls i) (bare_settle r k.1 rs i))
bare_settle (left_join a b l r) k cs =
    let ls = filter (in_left (width l)) cs in
    bare_stand (filter (λ c. not (in_left (width l) c)) cs) (left_join a b (settle ls l) r) ∙ (λ i. left_join a b (bare_settle l k.0 ls i) (k.1 i))

module _ (a b : List ℕ) (l r : PlanTree) (cs : List Condition) (s : Each Still cs) where
  abbrev wide : ℕ
  wide = width l

  abbrev lefts : List Condition
  lefts = filter (in_left wide) cs

  abbrev rights : List Condition
  rights = map (moved (λ k. k - wide)) (filter (in_right wide) cs)

  abbrev aboves : List Condition
  aboves = filter (in_both wide) cs

  abbrev others : List Condition
  others = filter (λ c. not (in_left wide c)) cs

  still_lefts : Each Still lefts
  still_lefts = each_filter Still (in_left wide) cs s

  still_rights : Each Still rights
  still_rights = each_map Still (moved (λ k. k - wide)) (filter (in_right wide) cs) (each_implies Still (λ c. Still (moved (λ k. k - wide) c)) (filter (in_right wide) cs) (still_moved (λ k. k - wide)) (each_filter Still (in_right wide) cs s))

  -- what is gathered from an inner join and from a LEFT join
  inner_gathered : conditions (settle cs (inner_join a b l r)) ≡ (conditions (settle lefts l) ++ map (moved (λ k. wide + k)) (conditions (settle rights r))) ++ aboves
  inner_gathered =
      conditions_stand aboves (inner_join a b (settle lefts l) (settle rights r)) (each_filter Still (in_both wide) cs s)
      ∙ (λ i. (conditions (settle lefts l) ++ map (moved (λ k. width_settle lefts l i + k)) (conditions (settle rights r))) ++ aboves)

  left_gathered : conditions (settle cs (left_join a b l r)) ≡ conditions (settle lefts l) ++ others
  left_gathered = conditions_stand others (left_join a b (settle lefts l) r) (each_filter Still (λ c. not (in_left wide c)) cs s)

-- what holds of the conditions that are put holds of those that are gathered
each_kept : (z : PlanTree) → Clean z → (P : Condition → Type 0) (cs : List Condition) → Each Still cs → Each P cs → Each P (conditions (settle cs z))
each_kept (table n w) k P cs s h = subst (Each P) (sym (conditions_stand cs (table n w) s)) h
each_kept (proj cols p) k P cs s h = subst (Each P) (sym (conditions_stand cs (proj cols p) s)) h
each_kept (dedup p) k P cs s h = subst (Each P) (sym (conditions_stand cs (dedup p) s)) h
each_kept (filtered q cols p) k P cs s h = absurd k
each_kept (in_sub cols l r) k P cs s h = absurd k
each_kept (inner_join a b l r) k P cs s h =
    let n = width l in
    let cl = conditions (settle (lefts a b l r cs s) l) in
    let cr = conditions (settle (rights a b l r cs s) r) in
    let one : Each P cl = each_kept l k.0 P (lefts a b l r cs s) (still_lefts a b l r cs s) (each_filter P (in_left n) cs h) in
    let there : Each (λ c. in_right n c ≡ true → P (moved (λ k. n + k) (moved (λ k. k - n) c))) cs = each_implies P (λ c. in_right n c ≡ true → P (moved (λ k. n + k) (moved (λ k. k - n) c))) cs (λ c p e. subst P (sym (moved_up n c e)) p) h in
    let two : Each P (map (moved (λ k. n + k)) cr) =
    each_map P (moved (λ k. n + k)) cr
    (each_kept r k.1 (λ c. P (moved (λ k. n + k) c)) (rights a b l r cs s) (still_rights a b l r cs s) (each_filter_map (λ c. P (moved (λ k. n + k) c)) (moved (λ k. k - n)) (in_right n) cs there)) in
    let three : Each P (aboves a b l r cs s) = each_filter P (in_both n) cs h in
    subst (Each P) (sym (inner_gathered a b l r cs s)) (each_append P (cl ++ map (moved (λ k. n + k)) cr) (aboves a b l r cs s) (each_append P cl (map (moved (λ k. n + k)) cr) one two) three)
each_kept (left_join a b l r) k P cs s h =
    let n = width l in
    let one : Each P (conditions (settle (lefts a b l r cs s) l)) = each_kept l k.0 P (lefts a b l r cs s) (still_lefts a b l r cs s) (each_filter P (in_left n) cs h) in
    subst (Each P) (sym (left_gathered a b l r cs s)) (each_append P (conditions (settle (lefts a b l r cs s) l)) (others a b l r cs s) one (each_filter P (λ c. not (in_left n c)) cs h))

-- the conditions of an inner join, sorted again
module _ (n : ℕ) (cl cr bs : List Condition) (left : Each (λ c. in_left n c ≡ true) cl) (right : Each (λ c. in_right n c ≡ true) cr) (both : Each (λ c. in_both n c ≡ true) bs) where
  abbrev high : Condition → Bool
  high c = list_all (λ k. not (nat_lt k n)) (over c)

  sorted_left : filter (in_left n) ((cl ++ cr) ++ bs) ≡ cl
  sorted_left =
      three_first (in_left n) cl cr bs left
      (each_implies (λ c. in_right n c ≡ true) (λ c. in_left n c ≡ false) cr (λ c e. right_not_left (in_left n c) (high c) e) right)
      (each_implies (λ c. in_both n c ≡ true) (λ c. in_left n c ≡ false) bs (λ c e. right_not_left (in_left n c) (not (high c)) e) both)

  sorted_right : filter (in_right n) ((cl ++ cr) ++ bs) ≡ cr
  sorted_right =
      three_second (in_right n) cl cr bs
      (each_implies (λ c. in_left n c ≡ true) (λ c. in_right n c ≡ false) cl (λ c e. left_not_right (in_left n c) (high c) e) left)
      right
      (each_implies (λ c. in_both n c ≡ true) (λ c. in_right n c ≡ false) bs (λ c e. both_not_right (in_left n c) (high c) e) both)

  sorted_both : filter (in_both n) ((cl ++ cr) ++ bs) ≡ bs
  sorted_both =
      three_third (in_both n) cl cr bs
      (each_implies (λ c. in_left n c ≡ true) (λ c. in_both n c ≡ false) cl (λ c e. left_not_right (in_left n c) (not (high c)) e) left)
      (each_implies (λ c. in_right n c ≡ true) (λ c. in_both n c ≡ false) cr (λ c e. right_not_both (in_left n c) (high c) e) right)
      both

-- conditions that are put, gathered and put again
again : (z : PlanTree) → Clean z → (cs : List Condition) → Each Still cs → settle (conditions (settle cs z)) z ≡ settle cs z
again (table n w) k cs s = ap (λ l. settle l (table n w)) (conditions_stand cs (table n w) s)
again (proj cols p) k cs s = ap (λ l. settle l (proj cols p)) (conditions_stand cs (proj cols p) s)
again (dedup p) k cs s = ap (λ l. settle l (dedup p)) (conditions_stand cs (dedup p) s)
again (filtered q cols p) k cs s = absurd k
again (in_sub cols l r) k cs s = absurd k
again (inner_join a b l r) k cs s =
    let n = width l in
    let ls = lefts a b l r cs s in
    let rs = rights a b l r cs s in
    let bs = aboves a b l r cs s in
    let cl = conditions (settle ls l) in
    let low = conditions (settle rs r) in
    let cr = map (moved (λ k. n + k)) low in
    let left : Each (λ c. in_left n c ≡ true) cl = each_kept l k.0 (λ c. in_left n c ≡ true) ls (still_lefts a b l r cs s) (each_passed (in_left n) cs) in
    let right : Each (λ c. in_right n c ≡ true) cr =
    each_map (λ c. in_right n c ≡ true) (moved (λ k. n + k)) low
    (each_kept r k.1 (λ c. in_right n (moved (λ k. n + k) c) ≡ true) rs (still_rights a b l r cs s)
    (each_filter_map (λ c. in_right n (moved (λ k. n + k) c) ≡ true) (moved (λ k. k - n)) (in_right n) cs (each_for cs (λ c e. ap (in_right n) (moved_up n c e) ∙ e)))) in
    let both : Each (λ c. in_both n c ≡ true) bs = each_passed (in_both n) cs in
    let lowered : map (moved (λ k. k - n)) (filter (in_right n) ((cl ++ cr) ++ bs)) ≡ low = ap (map (moved (λ k. k - n))) (sorted_right n cl cr bs left right both) ∙ moved_down n low in
    ap (λ l'. settle l' (inner_join a b l r)) (inner_gathered a b l r cs s)
    ∙ (λ i. stand (sorted_both n cl cr bs left right both i) (inner_join a b (settle (sorted_left n cl cr bs left right both i) l) (settle (lowered i) r)))
    ∙ (λ i. stand bs (inner_join a b (again l k.0 ls (still_lefts a b l r cs s) i) (again r k.1 rs (still_rights a b l r cs s) i)))
again (left_join a b l r) k cs s =
    let n = width l in
    let ls = lefts a b l r cs s in
    let bs = others a b l r cs s in
    let cl = conditions (settle ls l) in
    let left : Each (λ c. in_left n c ≡ true) cl = each_kept l k.0 (λ c. in_left n c ≡ true) ls (still_lefts a b l r cs s) (each_passed (in_left n) cs) in
    let rest : Each (λ c. not (in_left n c) ≡ true) bs = each_passed (λ c. not (in_left n c)) cs in
    let first : filter (in_left n) (cl ++ bs) ≡ cl = two_first (in_left n) cl bs left (each_implies (λ c. not (in_left n c) ≡ true) (λ c. in_left n c ≡ false) bs (λ c e. turned (in_left n c) e) rest) in
    let second : filter (λ c. not (in_left n c)) (cl ++ bs) ≡ bs = two_second (λ c. not (in_left n c)) cl bs (each_implies (λ c. in_left n c ≡ true) (λ c. not (in_left n c) ≡ false) cl (λ c e. ap not e) left) rest in
    ap (λ l'. settle l' (left_join a b l r)) (left_gathered a b l r cs s)
    ∙ (λ i. stand (second i) (left_join a b (settle (first i) l) r))
    ∙ (λ i. stand bs (left_join a b (again l k.0 ls (still_lefts a b l r cs s) i) r))

placed_again : (z : PlanTree) → Clean z → (cs : List Condition) → Each Still cs → placed (settle cs z) ≡ settle cs z
placed_again z k cs s = ap (settle (conditions (settle cs z))) (bare_settle z k cs) ∙ again z k cs s

-- the zone of a plan without its conditions, and these
clean : (p : PlanTree) → Clean (bare p) × Each Still (conditions p)
clean (table n w) = (tt, tt)
clean (proj cols p) = let h = clean p in (placed_again (bare p) h.0 (conditions p) h.1, tt)
clean (dedup p) = let h = clean p in (placed_again (bare p) h.0 (conditions p) h.1, tt)
clean (filtered q cols p) = let h = clean p in (h.0, each_append Still (conditions p) (test q cols ∷ []) h.1 (tt, tt))
clean (in_sub cols l r) =
    let h = clean l in
    let m = clean r in
    (h.0, each_append Still (conditions l) (member cols (placed r) ∷ []) h.1 (placed_again (bare r) m.0 (conditions r) m.1, tt))
clean (inner_join a b l r) =
    let h = clean l in
    let m = clean r in (
      (h.0, m.0),
      each_append Still (conditions l) (map (moved (λ k. width l + k)) (conditions r)) h.1
          (each_map Still (moved (λ k. width l + k)) (conditions r) (each_implies Still (λ c. Still (moved (λ k. width l + k) c)) (conditions r) (still_moved (λ k. width l + k)) m.1)),
    )
clean (left_join a b l r) =
    let h = clean l in
    let m = clean r in
    ((h.0, placed_again (bare r) m.0 (conditions r) m.1), h.1)

pub is_placed : (p : PlanTree) → IsPlaced (placed p)
is_placed p = let h = clean p in placed_again (bare p) h.0 (conditions p) h.1
