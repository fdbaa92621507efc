-- Rows that agree at columns, and the rows of joins in which none agree.
use Rattle.std.proofs.Common.{◌≡◌, ◌≢◌, ℕ, ◌+◌, ◌-◌, ◌<◌, ◌≤◌, Bool, true, false, not, List, [], ◌∷◌, ◌++◌, filter, length, refl, sym, ap, ◌∙◌, subst, inl, inr, arith}
use Rattle.std.specs.Prelude.{◌⊎◌, ◌==◌, ◌&&◌, ◌||◌, nat_lt, flat_map, if◌then◌else◌}
use Rattle.std.proofs.lemmas.Grind.{common_steps}
use Rattle.wt_bag.specs.Bags.{Each}
use Rattle.wt_bag.specs.Choices.{EachLater, Has}
use Rattle.wt_bag.proofs.EachLaws.{each_map, each_implies, each_append}
use Rattle.wt_bag.proofs.HasLaws.{each_from_has, has_from_map, has_list_any}
use Rattle.wt_bag.proofs.UniqueLists.{each_has}
use Rattle.wt_value.specs.declared.value.Value.{Value}
use Rattle.wt_value.specs.declared.value.Value.TheVariants.{Null}
use Rattle.wt_value.specs.Values.{Tuple, HasNoNull, row_matches, Matches, value_at, pick}
use Rattle.wt_value.proofs.Comparing.{row_matches-Decides}
use Rattle.wt_plan.specs.Rows.{null_row, joined, or_nulls}
use Rattle.wt_plan.proofs.Together.{value_left, value_right, null_value}
use Rattle.wt_known.specs.Sets.{is_in, lefts, rights, paired_with}
use Rattle.wt_known.proofs.Lists.{from_filter, later_implies, later_filter, later_map, later_flat}

-- a left row's joined rows; where there are none, the row with so many NULLs
abbrev pub or_null_row : ℕ → Tuple → List Tuple → List Tuple
or_null_row n left rows = or_nulls (left ++ null_row n) rows

-- two values are equal and not NULL
abbrev pub Same : Value → Value → Type 0
Same v w = (v ≡ w) × (v ≢ Null)

-- two rows are so at these columns
abbrev pub Agree : List ℕ → Tuple → Tuple → Type 0
Agree cols x y = Each (λ c. Same (value_at x c) (value_at y c)) cols

-- no row agrees with a later one at these columns
abbrev pub UniqueOn : List ℕ → List Tuple → Type 0
UniqueOn cols rows = EachLater (λ x y. Agree cols x y → ⊥) rows

pub and_parts : (b c : Bool) → (b && c) ≡ true → (b ≡ true) × (c ≡ true)
and_parts true c h = (refl, h)
and_parts false c h = cc

pub or_parts : (b c : Bool) → (b || c) ≡ true → (b ≡ true) ⊎ (c ≡ true)
or_parts true c h = inl refl
or_parts false c h = inr h

pub lt_true : (c w : ℕ) → nat_lt c w ≡ true → c < w
lt_true c w h = grind (arith, common_steps)

pub not_lt : (c w : ℕ) → not (nat_lt c w) ≡ true → w ≤ c
not_lt c w h = grind (arith, common_steps)

pub eq_true : (c d : ℕ) → (c == d) ≡ true → c ≡ d
eq_true c d h = grind (arith, common_steps)

-- agreeing is matching
pub from_match : (cols : List ℕ) (x y : Tuple) → Matches (pick cols x) (pick cols y) → Agree cols x y
from_match [] x y h = tt
from_match (c ∷ cols) x y h = let heads : value_at x c ≡ value_at y c = first _ _ _ _ h.0 in let tails : pick cols x ≡ pick cols y = later _ _ _ _ h.0 in ((heads, h.1.0), from_match cols x y (tails, h.1.1))
  where
    first : (v w : Value) (vs ws : Tuple) → v ∷ vs ≡ w ∷ ws → v ≡ w
    first v w vs ws e = cc

    later : (v w : Value) (vs ws : Tuple) → v ∷ vs ≡ w ∷ ws → vs ≡ ws
    later v w vs ws e = cc

pub to_match : (cols : List ℕ) (x y : Tuple) → Agree cols x y → Matches (pick cols x) (pick cols y)
to_match [] x y h = (refl, tt)
to_match (c ∷ cols) x y h = let rest = to_match cols x y h.1 in (both _ _ _ _ h.0.0 rest.0, (h.0.1, rest.1))
  where
    both : (v w : Value) (vs ws : Tuple) → v ≡ w → vs ≡ ws → v ∷ vs ≡ w ∷ ws
    both v w vs ws e f = cc

agree_sym : (cols : List ℕ) (x y : Tuple) → Agree cols x y → Agree cols y x
agree_sym cols x y h = each_implies (λ c. Same (value_at x c) (value_at y c)) (λ c. Same (value_at y c) (value_at x c)) cols (λ c k. (sym k.0, λ e. k.1 (k.0 ∙ e))) h

-- rows of a unique list that agree are one
pub unique_same : (cols : List ℕ) (rows : List Tuple) (x y : Tuple) → UniqueOn cols rows → Has x rows → Has y rows → Agree cols x y → x ≡ y
unique_same cols [] x y u h k a = absurd h
unique_same cols (r ∷ rows) x y u (inl e) (inl f) a = e ∙ sym f
unique_same cols (r ∷ rows) x y u (inl e) (inr k) a = absurd (each_has (λ z. Agree cols r z → ⊥) y rows u.0 k (subst (λ z. Agree cols z y) e a))
unique_same cols (r ∷ rows) x y u (inr h) (inl f) a = absurd (each_has (λ z. Agree cols r z → ⊥) x rows u.0 h (agree_sym cols x r (subst (λ z. Agree cols x z) f a)))
unique_same cols (r ∷ rows) x y u (inr h) (inr k) a = unique_same cols rows x y u.1 h k a

-- values of two rows put together
pub at_left : (v w : Tuple) (c : ℕ) → c < length v → value_at (v ++ w) c ≡ value_at v c
at_left v w c h = value_left v w c h

pub at_right_of : (v w : Tuple) (k c n : ℕ) → length v ≡ k → n ≡ k + c → value_at (v ++ w) n ≡ value_at w c
at_right_of v w k c n e f =
    let place : n - length v ≡ c = omega (arith, e, f) in
    value_right v w n (omega (arith, e, f)) ∙ ap (value_at w) place

agree_lefts : (k : ℕ) (set : List ℕ) (v w v' w' : Tuple) → length v ≡ k → length v' ≡ k → Agree set (v ++ w) (v' ++ w') → Agree (lefts k set) v v'
agree_lefts k set v w v' w' e e' h = each_from_has _ (lefts k set) (λ c there.
    let parts = from_filter (λ d. nat_lt d k) c set there in
    let lt : c < k = lt_true c k parts.1 in
    let both = each_has (λ d. Same (value_at (v ++ w) d) (value_at (v' ++ w') d)) c set h parts.0 in
    let one = at_left v w c (omega (arith, lt, e)) in
    let two = at_left v' w' c (omega (arith, lt, e')) in
    (sym one ∙ both.0 ∙ two, λ n. both.1 (one ∙ n)))

agree_rights : (k : ℕ) (set : List ℕ) (v w v' w' : Tuple) → length v ≡ k → length v' ≡ k → Agree set (v ++ w) (v' ++ w') → Agree (rights k set) w w'
agree_rights k set v w v' w' e e' h = each_map _ (λ c. c - k) (filter (λ c. not (nat_lt c k)) set) (each_from_has _ (filter (λ c. not (nat_lt c k)) set) (λ c there.
    let parts = from_filter (λ d. not (nat_lt d k)) c set there in
    let le : k ≤ c = not_lt c k parts.1 in
    let both = each_has (λ d. Same (value_at (v ++ w) d) (value_at (v' ++ w') d)) c set h parts.0 in
    let one = at_right_of v w k (c - k) c e (omega (arith, le)) in
    let two = at_right_of v' w' k (c - k) c e' (omega (arith, le)) in
    (sym one ∙ both.0 ∙ two, λ n. both.1 (one ∙ n))))

-- a pair of a join
pub pair_of : (a b : List ℕ) (v y : Tuple) (ws : List Tuple) → Has y (joined a b v ws) → (w : Tuple) × Has w ws × (row_matches (pick a v) (pick b w) ≡ true) × (y ≡ v ++ w)
pair_of a b v y ws h =
    let found = has_from_map y (λ w. v ++ w) (filter (λ w. row_matches (pick a v) (pick b w)) ws) h in
    let parts = from_filter (λ w. row_matches (pick a v) (pick b w)) found.0 ws found.1 in
    (found.0, parts.0, parts.1, found.2)

pub added_or_pair : (k : ℕ) (v y : Tuple) (rows : List Tuple) → Has y (or_null_row k v rows) → (y ≡ v ++ null_row k) ⊎ Has y rows
added_or_pair k v y [] (inl e) = inl e
added_or_pair k v y [] (inr h) = absurd h
added_or_pair k v y (row ∷ rows) h = inr h

-- rows that match one row agree
agree_through : (a b : List ℕ) (v w w' : Tuple) → row_matches (pick a v) (pick b w) ≡ true → row_matches (pick a v) (pick b w') ≡ true → Agree b w w'
agree_through a b v w w' h k =
    let m = (row_matches-Decides (pick a v) (pick b w)).0 h in
    let n = (row_matches-Decides (pick a v) (pick b w')).0 k in
    from_match b w w' (sym m.0 ∙ n.0, subst HasNoNull m.0 m.1)

agree_back : (a b : List ℕ) (v v' w w' : Tuple) → row_matches (pick a v) (pick b w) ≡ true → row_matches (pick a v') (pick b w') ≡ true → w ≡ w' → Agree a v v'
agree_back a b v v' w w' h k e =
    let m = (row_matches-Decides (pick a v) (pick b w)).0 h in
    let n = (row_matches-Decides (pick a v') (pick b w')).0 k in
    from_match a v v' (m.0 ∙ ap (pick b) e ∙ sym n.0, m.1)

-- joined rows that agree at a set agree at the columns that the lists pair with it
pub has_in : (c : ℕ) (set : List ℕ) → is_in c set ≡ true → Has c set
has_in c set h = let found = has_list_any (λ d. c == d) set h in subst (λ d. Has d set) (sym (eq_true c found.0 found.2)) found.1

value_moves : (x y x' y' : Value) → x ≡ x' → y ≡ y' → Same x' y' → Same x y
value_moves x y x' y' e f h = (e ∙ h.0 ∙ sym f, λ n. h.1 (sym e ∙ n))

pub agree_paired : (k : ℕ) (a b set : List ℕ) (v w v' w' : Tuple) → length v ≡ k → length v' ≡ k → Each (λ c. c < k) a → pick a v ≡ pick b w → pick a v' ≡ pick b w' →
    Agree set (v ++ w) (v' ++ w') → Agree (paired_with k a b set) (v ++ w) (v' ++ w')
agree_paired k [] b set v w v' w' e e' lt m m' h = tt
agree_paired k (x ∷ a) [] set v w v' w' e e' lt m m' h = tt
agree_paired k (x ∷ a) (y ∷ b) set v w v' w' e e' lt m m' h =
    each_append _ _ _ (right_one (is_in x set) refl) (each_append _ _ _ (left_one (is_in (y + k) set) refl) (agree_paired k a b set v w v' w' e e' lt.1 (later _ _ _ _ m) (later _ _ _ _ m') h))
  where
    first : (v w : Value) (vs ws : Tuple) → v ∷ vs ≡ w ∷ ws → v ≡ w
    first v w vs ws e = cc

    later : (v w : Value) (vs ws : Tuple) → v ∷ vs ≡ w ∷ ws → vs ≡ ws
    later v w vs ws e = cc

    one : value_at (v ++ w) (y + k) ≡ value_at (v ++ w) x
    one = at_right_of v w k y (y + k) e (omega arith) ∙ sym (first _ _ _ _ m) ∙ sym (at_left v w x (omega (arith, lt.0, e)))

    two : value_at (v' ++ w') (y + k) ≡ value_at (v' ++ w') x
    two = at_right_of v' w' k y (y + k) e' (omega arith) ∙ sym (first _ _ _ _ m') ∙ sym (at_left v' w' x (omega (arith, lt.0, e')))

    right_one : (t : Bool) → is_in x set ≡ t → Each (λ c. Same (value_at (v ++ w) c) (value_at (v' ++ w') c)) (if t then (y + k) ∷ [] else [])
    right_one true there = (value_moves _ _ _ _ one two (each_has (λ c. Same (value_at (v ++ w) c) (value_at (v' ++ w') c)) x set h (has_in x set there)), tt)
    right_one false there = tt

    left_one : (t : Bool) → is_in (y + k) set ≡ t → Each (λ c. Same (value_at (v ++ w) c) (value_at (v' ++ w') c)) (if t then x ∷ [] else [])
    left_one true there = (value_moves _ _ _ _ (sym one) (sym two) (each_has (λ c. Same (value_at (v ++ w) c) (value_at (v' ++ w') c)) (y + k) set h (has_in (y + k) set there)), tt)
    left_one false there = tt

-- through a join that gives each left row some rows that begin with it: `made v` are the rows of v
module _ (k : ℕ) (a b set : List ℕ) (vs ws : List Tuple) (wide : Each (λ v. length v ≡ k) vs) where
  joined_left : (made : Tuple → List Tuple) → ((v y : Tuple) → Has y (made v) → (w : Tuple) × (y ≡ v ++ w)) → UniqueOn (lefts k set) vs →
      EachLater (λ v v'. (y y' : Tuple) → Has y (made v) → Has y' (made v') → Agree set y y' → ⊥) vs
  joined_left made begins u =
      later_implies (λ v v'. Agree (lefts k set) v v' → ⊥) (λ v v'. (y y' : Tuple) → Has y (made v) → Has y' (made v') → Agree set y y' → ⊥) vs
      (λ v v' hv hv' apart y y' hy hy' agree.
      let one = begins v y hy in
      let two = begins v' y' hy' in
      apart (agree_lefts k set v one.0 v' two.0 (each_has (λ l. length l ≡ k) v vs wide hv) (each_has (λ l. length l ≡ k) v' vs wide hv') (subst (λ l. Agree set l (v' ++ two.0)) one.1 (subst (λ l. Agree set y l) two.1 agree)))) u

  -- pairs of one left row
  own_by_list : (v : Tuple) → length v ≡ k → UniqueOn b ws → UniqueOn set (joined a b v ws)
  own_by_list v e u =
      later_map (λ x y. Agree set x y → ⊥) (λ w. v ++ w) (filter (λ w. row_matches (pick a v) (pick b w)) ws)
      (later_implies (λ w w'. Agree b w w' → ⊥) (λ w w'. Agree set (v ++ w) (v ++ w') → ⊥) (filter (λ w. row_matches (pick a v) (pick b w)) ws)
      (λ w w' h h' apart agree. apart (agree_through a b v w w' (from_filter (λ x. row_matches (pick a v) (pick b x)) w ws h).1 (from_filter (λ x. row_matches (pick a v) (pick b x)) w' ws h').1))
      (later_filter (λ w w'. Agree b w w' → ⊥) (λ w. row_matches (pick a v) (pick b w)) ws u))

  own_by_columns : (v : Tuple) → length v ≡ k → UniqueOn (rights k set) ws → UniqueOn set (joined a b v ws)
  own_by_columns v e u =
      later_map (λ x y. Agree set x y → ⊥) (λ w. v ++ w) (filter (λ w. row_matches (pick a v) (pick b w)) ws)
      (later_implies (λ w w'. Agree (rights k set) w w' → ⊥) (λ w w'. Agree set (v ++ w) (v ++ w') → ⊥) (filter (λ w. row_matches (pick a v) (pick b w)) ws)
      (λ w w' h h' apart agree. apart (agree_rights k set v w v w' e e agree))
      (later_filter (λ w w'. Agree (rights k set) w w' → ⊥) (λ w. row_matches (pick a v) (pick b w)) ws u))

  -- pairs of two left rows, where the right columns fix the right row and the left list the left row
  crossed : UniqueOn (rights k set) ws → (v v' y y' : Tuple) → length v ≡ k → length v' ≡ k → (Agree a v v' → ⊥) → Has y (joined a b v ws) → Has y' (joined a b v' ws) → Agree set y y' → ⊥
  crossed u v v' y y' e e' apart hy hy' agree =
      let one = pair_of a b v y ws hy in
      let two = pair_of a b v' y' ws hy' in
      let both : Agree set (v ++ one.0) (v' ++ two.0) = subst (λ l. Agree set l (v' ++ two.0)) one.3 (subst (λ l. Agree set y l) two.3 agree) in
      apart (agree_back a b v v' one.0 two.0 one.2 two.2 (unique_same (rights k set) ws one.0 two.0 u one.1 two.1 (agree_rights k set v one.0 v' two.0 e e' both)))

  -- what one of the three cases says
  abbrev pub OneCase : Type 0
  OneCase = (UniqueOn (lefts k set) vs × UniqueOn b ws) ⊎ ((UniqueOn (rights k set) ws × UniqueOn a vs) ⊎ (UniqueOn (lefts k set) vs × UniqueOn (rights k set) ws))

  begins_pair : (v y : Tuple) → Has y (joined a b v ws) → (w : Tuple) × (y ≡ v ++ w)
  begins_pair v y h = let p = pair_of a b v y ws h in (p.0, p.3)

  pub inner_unique : OneCase → UniqueOn set (flat_map (λ v. joined a b v ws) vs)
  inner_unique (inl h) =
      later_flat (λ y y'. Agree set y y' → ⊥) (λ v. joined a b v ws) vs (joined_left (λ v. joined a b v ws) begins_pair h.0) (each_implies (λ v. length v ≡ k) (λ v. UniqueOn set (joined a b v ws)) vs (λ v e. own_by_list v e h.1) wide)
  inner_unique (inr (inl h)) =
      later_flat (λ y y'. Agree set y y' → ⊥) (λ v. joined a b v ws) vs
      (later_implies (λ v v'. Agree a v v' → ⊥) (λ v v'. (y y' : Tuple) → Has y (joined a b v ws) → Has y' (joined a b v' ws) → Agree set y y' → ⊥) vs
      (λ v v' hv hv' apart y y'. crossed h.0 v v' y y' (each_has (λ l. length l ≡ k) v vs wide hv) (each_has (λ l. length l ≡ k) v' vs wide hv') apart) h.1)
      (each_implies (λ v. length v ≡ k) (λ v. UniqueOn set (joined a b v ws)) vs (λ v e. own_by_columns v e h.0) wide)
  inner_unique (inr (inr h)) =
      later_flat (λ y y'. Agree set y y' → ⊥) (λ v. joined a b v ws) vs (joined_left (λ v. joined a b v ws) begins_pair h.0) (each_implies (λ v. length v ≡ k) (λ v. UniqueOn set (joined a b v ws)) vs (λ v e. own_by_columns v e h.1) wide)

  begins_added : (n : ℕ) (v y : Tuple) → Has y (or_null_row n v (joined a b v ws)) → (w : Tuple) × (y ≡ v ++ w)
  begins_added n v y h = elim (added_or_pair n v y (joined a b v ws) h) [ inl e ↦ (null_row n, e) | inr there ↦ begins_pair v y there ]

  own_added : (n : ℕ) (v : Tuple) (rows : List Tuple) → UniqueOn set rows → UniqueOn set (or_null_row n v rows)
  own_added n v [] u = (tt, tt)
  own_added n v (row ∷ rows) u = u

  -- at a right column the added row has NULL, so it agrees with no row
  never_added : (n : ℕ) (v x y : Tuple) (cols : List ℕ) → 0 < length cols → Agree cols (null_row n) x → ⊥
  never_added n v x y [] lt h = omega (arith, lt)
  never_added n v x y (c ∷ cols) lt h = h.0.1 (null_value n c)

  -- the same, the right columns of the second case being some
  abbrev pub OneLeftCase : Type 0
  OneLeftCase = (UniqueOn (lefts k set) vs × UniqueOn b ws) ⊎ (((UniqueOn (rights k set) ws × (0 < length (rights k set))) × UniqueOn a vs) ⊎ (UniqueOn (lefts k set) vs × UniqueOn (rights k set) ws))

  pub left_unique : (n : ℕ) → OneLeftCase → UniqueOn set (flat_map (λ v. or_null_row n v (joined a b v ws)) vs)
  left_unique n (inl h) =
      later_flat (λ y y'. Agree set y y' → ⊥) (λ v. or_null_row n v (joined a b v ws)) vs (joined_left (λ v. or_null_row n v (joined a b v ws)) (begins_added n) h.0)
      (each_implies (λ v. length v ≡ k) (λ v. UniqueOn set (or_null_row n v (joined a b v ws))) vs (λ v e. own_added n v (joined a b v ws) (own_by_list v e h.1)) wide)
  left_unique n (inr (inl h)) =
      later_flat (λ y y'. Agree set y y' → ⊥) (λ v. or_null_row n v (joined a b v ws)) vs
      (later_implies (λ v v'. Agree a v v' → ⊥) (λ v v'. (y y' : Tuple) → Has y (or_null_row n v (joined a b v ws)) → Has y' (or_null_row n v' (joined a b v' ws)) → Agree set y y' → ⊥) vs
      (λ v v' hv hv' apart y y' hy hy' agree. here v v' y y' (each_has (λ l. length l ≡ k) v vs wide hv) (each_has (λ l. length l ≡ k) v' vs wide hv') apart (added_or_pair n v y (joined a b v ws) hy) (added_or_pair n v' y' (joined a b v' ws) hy') agree) h.1)
      (each_implies (λ v. length v ≡ k) (λ v. UniqueOn set (or_null_row n v (joined a b v ws))) vs (λ v e. own_added n v (joined a b v ws) (own_by_columns v e h.0.0)) wide)
    where
      begins : (v' y' : Tuple) → (y' ≡ v' ++ null_row n) ⊎ Has y' (joined a b v' ws) → (w : Tuple) × (y' ≡ v' ++ w)
      begins v' y' (inl e) = (null_row n, e)
      begins v' y' (inr there) = begins_pair v' y' there

      lost : (v v' y y' : Tuple) → length v ≡ k → length v' ≡ k → y ≡ v ++ null_row n → (w : Tuple) × (y' ≡ v' ++ w) → Agree set y y' → ⊥
      lost v v' y y' e e' f g agree =
          never_added n v g.0 y (rights k set) h.0.1 (agree_rights k set v (null_row n) v' g.0 e e' (subst (λ l. Agree set l (v' ++ g.0)) f (subst (λ l. Agree set y l) g.1 agree)))

      here : (v v' y y' : Tuple) → length v ≡ k → length v' ≡ k → (Agree a v v' → ⊥) → (y ≡ v ++ null_row n) ⊎ Has y (joined a b v ws) → (y' ≡ v' ++ null_row n) ⊎ Has y' (joined a b v' ws) → Agree set y y' → ⊥
      here v v' y y' e e' apart (inl f) other agree = lost v v' y y' e e' f (begins v' y' other) agree
      here v v' y y' e e' apart (inr hy) (inl f) agree = lost v' v y' y e' e f (begins_pair v y hy) (agree_sym set y y' agree)
      here v v' y y' e e' apart (inr hy) (inr hy') agree = crossed h.0.0 v v' y y' e e' apart hy hy' agree
  left_unique n (inr (inr h)) =
      later_flat (λ y y'. Agree set y y' → ⊥) (λ v. or_null_row n v (joined a b v ws)) vs (joined_left (λ v. or_null_row n v (joined a b v ws)) (begins_added n) h.0)
      (each_implies (λ v. length v ≡ k) (λ v. UniqueOn set (or_null_row n v (joined a b v ws))) vs (λ v e. own_added n v (joined a b v ws) (own_by_columns v e h.1)) wide)
