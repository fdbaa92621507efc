-- With more levels a reading answers the same, unless it is refused for want of a level.
use Rattle.std.proofs.Common.{◌≡◌, ℕ, suc, zero, ◌+◌, ◌-◌, ◌≤◌, ◌⊎◌, inl, inr, Bool, true, false, List, [], ◌∷◌, drop, refl, ap, sym, arith, Ok, Err, Some, subst}
use Rattle.std.specs.Prelude.{if◌then◌else◌}
use Rattle.wt_ast.specs.declared.tree.ColumnName.{ColumnName}
use Rattle.wt_ast.specs.declared.tree.Scalar.{Scalar}
use Rattle.wt_ast.specs.declared.tree.Scalar.TheVariants as scalar
use Rattle.wt_ast.specs.Tree.{QueryTree, FromTree, CondTree, CondTrees, select, filter_by, derived, in_list, in_query, negated}
use Rattle.wt_ast.specs.Tree as tree
use Rattle.wt_reading.specs.declared.lexeme.Kind.{Kind}
use Rattle.wt_grammar.specs.declared.fault.QueryFault.TheVariants as fault
use Rattle.wt_reading.specs.Lexemes.{Tokens, kind, place, is_name, is_open, is_close, is_comma, is_end}
use Rattle.wt_grammar.specs.Kinds.{is_and, is_or, is_not, is_select, is_where, is_between, is_is, is_in, is_on, is_from, begins_join}
use Rattle.wt_grammar.specs.Refusals.{syntax, no_join}
use Rattle.wt_reading.specs.Readings.{plus, followed, taken, joined_to, more, list, expect, within, onward, repeat}
use Rattle.wt_grammar.specs.Reading.{Read, Refusal, refused, refusal, run, no, of_column, join_of, no_query_end, Nest}
use Rattle.wt_grammar.specs.Reading as read
use Rattle.wt_sentence.proofs.Complete.{statement_with}

-- refused for want of a level
abbrev pub IsTooDeep : {A : Type 0} → Read A → Type 0
IsTooDeep r = (at : ℕ) × (r ≡ Err (refused fault.TooDeep, at))

-- refused for want of a level, or answered the same by another reading
abbrev pub Steady : {A : Type 0} → Read A → Read A → Type 0
Steady r s = IsTooDeep r ⊎ (s ≡ r)

-- ---- readings put together

pub steady_if : {A : Type 0} (b : Bool) (x y x' y' : Read A) → Steady x x' → Steady y y' → Steady (if b then x else y) (if b then x' else y')
steady_if true x y x' y' h g = h
steady_if false x y x' y' h g = g

pub steady_plus : {A : Type 0} (n : ℕ) (r s : Read A) → Steady r s → Steady (plus n r) (plus n s)
steady_plus n r s (inl (at, e)) = inl (at, ap (plus n) e)
steady_plus n r s (inr e) = inr (ap (plus n) e)

pub steady_followed : {A B : Type 0} (ts : Tokens) (r s : Read A) (f g : A → Tokens → Read B) → Steady r s → ((x : A) (l : Tokens) → Steady (f x l) (g x l))
    → Steady (followed ts r f) (followed ts s g)
steady_followed ts r s f g (inl (at, e)) h = inl (at, ap (λ z. followed ts z f) e)
steady_followed ts (Ok x) s f g (inr e) h =
    subst (λ z. Steady (followed ts (Ok x) f) (followed ts z g)) (sym e) (steady_plus x.1 (f x.0 (drop x.1 ts)) (g x.0 (drop x.1 ts)) (h x.0 (drop x.1 ts)))
steady_followed ts (Err x) s f g (inr e) h = inr (ap (λ z. followed ts z g) e)

-- a reading that nothing but a value follows
pub steady_last : {A B : Type 0} (ts : Tokens) (r s : Read A) (f : A → B) → Steady r s → Steady (followed ts r (λ x rest. Ok (f x, 0))) (followed ts s (λ x rest. Ok (f x, 0)))
steady_last {A} {B} ts r s f h = steady_followed ts r s (λ x rest. Ok (f x, 0)) (λ x rest. Ok (f x, 0)) h (λ x l. inr refl)

steady_joined_to : {A : Type 0} (r s : Read A) (q p : Read (List A)) → Steady r s → Steady q p → Steady (joined_to r q) (joined_to s p)
steady_joined_to r s q p (inl (at, e)) h = inl (at, ap (λ z. joined_to z q) e)
steady_joined_to r s q p (inr e) (inr f) = inr (λ i. joined_to (e i) (f i))
steady_joined_to (Ok x) s q p (inr e) (inl (at, f)) = inl (at, ap (joined_to (Ok x)) f)
steady_joined_to (Err x) s q p (inr e) (inl (at, f)) = inr (ap (λ z. joined_to z p) e)

module _ {A : Type 0} (sep : Kind → Bool) (part part' : Tokens → Read A) (same : (ts : Tokens) → Steady (part ts) (part' ts)) where
  pub steady_more : (n : ℕ) (ts : Tokens) → Steady (more sep part n ts) (more sep part' n ts)
  unfolding more
  steady_more n [] = inr refl
  steady_more (suc n) (t ∷ ts) = steady_more n ts
  steady_more zero (t ∷ ts) =
      steady_if (sep t.kind) (joined_to (part ts) (more sep part (taken (part ts)) ts)) (Ok ([], 0)) (joined_to (part' ts) (more sep part' (taken (part' ts)) ts)) (Ok ([], 0))
      (steady_next (part ts) (part' ts) (λ n. more sep part n ts) (λ n. more sep part' n ts) (same ts) (λ n. steady_more n ts)) (inr refl)
    where
      steady_next : (r s : Read A) (f g : ℕ → Read (List A)) → Steady r s → ((n : ℕ) → Steady (f n) (g n)) → Steady (joined_to r (f (taken r))) (joined_to s (g (taken s)))
      steady_next r s f g (inl (at, e)) h = inl (at, ap (λ z. joined_to z (f (taken z))) e)
      steady_next r s f g (inr e) h =
          subst (λ z. Steady (joined_to r (f (taken r))) (joined_to z (g (taken z)))) (sym e) (steady_joined_to r r (f (taken r)) (g (taken r)) (inr refl) (h (taken r)))

-- steps, each from what was made before
pub steady_repeat : (test : Tokens → Bool) (step step' : FromTree → Tokens → Read FromTree) → ((a : FromTree) (ts : Tokens) → Steady (step a ts) (step' a ts)) → (a : FromTree) (n : ℕ) (ts : Tokens)
    → Steady (repeat test step n a ts) (repeat test step' n a ts)
unfolding repeat
steady_repeat test step step' same a n [] = inr refl
steady_repeat test step step' same a (suc n) (t ∷ ts) = steady_repeat test step step' same a n ts
steady_repeat test step step' same a zero (t ∷ ts) =
    steady_if (test (t ∷ ts)) _ _ _ _ (steady_onward (step a (t ∷ ts)) (step' a (t ∷ ts)) (λ b m. repeat test step (m - 1) b ts) (λ b m. repeat test step' (m - 1) b ts) (same a (t ∷ ts))
    (λ b m. steady_repeat test step step' same b (m - 1) ts)) (inr refl)
  where
    steady_onward : (r s : Read FromTree) (f g : FromTree → ℕ → Read FromTree) → Steady r s → ((b : FromTree) (m : ℕ) → Steady (f b m) (g b m)) → Steady (onward r f) (onward s g)
    steady_onward r s f g (inl (at, e)) h = inl (at, ap (λ z. onward z f) e)
    steady_onward (Ok x) s f g (inr e) h = subst (λ z. Steady (onward (Ok x) f) (onward z g)) (sym e) (steady_plus x.1 (f x.0 x.1) (g x.0 x.1) (h x.0 x.1))
    steady_onward (Err x) s f g (inr e) h = inr (ap (λ z. onward z g) e)

pub steady_within : {A : Type 0} (part part' : Tokens → Read A) → ((ts : Tokens) → Steady (part ts) (part' ts)) → (fault : A → Tokens → Refusal × ℕ) (ts : Tokens)
    → Steady (within part fault ts) (within part' fault ts)
steady_within part part' same fault ts =
    steady_plus 1 _ _ (steady_followed (drop 1 ts) (part (drop 1 ts)) (part' (drop 1 ts)) (λ x rest. followed rest (expect (λ l. is_close (kind l)) (fault x) rest) (λ _ r. Ok (x, 0)))
    (λ x rest. followed rest (expect (λ l. is_close (kind l)) (fault x) rest) (λ _ r. Ok (x, 0))) (same (drop 1 ts)) (λ x l. inr refl))

pub steady_run : (sep : Kind → Bool) (whole : ℕ → CondTrees → CondTree) (part part' : Tokens → Read CondTree) → ((ts : Tokens) → Steady (part ts) (part' ts)) → (ts : Tokens)
    → Steady (run sep whole part ts) (run sep whole part' ts)
unfolding run
steady_run sep whole part part' same ts =
    steady_followed ts (part ts) (part' ts) (λ x rest. followed rest (more sep part 0 rest) (λ xs r. Ok (read.one_or whole x xs, 0)))
    (λ x rest. followed rest (more sep part' 0 rest) (λ xs r. Ok (read.one_or whole x xs, 0)))
    (same ts) (λ x l. steady_last l (more sep part 0 l) (more sep part' 0 l) (λ xs. read.one_or whole x xs) (steady_more sep part part' same 0 l))

-- What stands one level deeper answers the same with more levels.
pub record SteadyBelow (ns ms : Nest) : Type 0 where
  pub room : (ns.room ≡ true) → ms.room ≡ true
  pub negs : (ts : Tokens) → Steady (ns.negs ts) (ms.negs ts)
  pub conds : (ts : Tokens) → Steady (ns.conds ts) (ms.conds ts)
  pub queries : (ts : Tokens) → Steady (ns.queries ts) (ms.queries ts)
  pub froms : (ts : Tokens) → Steady (ns.froms ts) (ms.froms ts)

module _ (end : ℕ) (bytes : List ℕ) where
  module _ (ns ms : Nest) (below : SteadyBelow ns ms) where
    pub steady_listed : {A : Type 0} (part : Tokens → Read A) (ts : Tokens) → Steady (read.listed end bytes ns part ts) (read.listed end bytes ms part ts)
    unfolding read.listed
    steady_listed part ts = by ns.room ms.room below.room
      where
        by : (b c : Bool) → (b ≡ true → c ≡ true)
            → Steady (if b then within (list part) (λ _. refusal end syntax) ts else no end fault.TooDeep ts) (if c then within (list part) (λ _. refusal end syntax) ts else no end fault.TooDeep ts)
        by true c h = inr (ap (λ b. if b then within (list part) (λ _. refusal end syntax) ts else no end fault.TooDeep ts) (h refl))
        by false c h = inl (place end ts, refl)

    pub steady_subquery : (at : ℕ) (cs : List ColumnName) (word : ℕ) (ts : Tokens) → Steady (read.subquery end bytes ns at cs word ts) (read.subquery end bytes ms at cs word ts)
    unfolding read.subquery
    steady_subquery at cs word ts = steady_last ts (ns.queries ts) (ms.queries ts) (λ q. in_query at cs q word) (below.queries ts)

    pub steady_values : (at : ℕ) (c : ColumnName) (word : ℕ) (ts : Tokens) → Steady (read.values end bytes ns at c word ts) (read.values end bytes ms at c word ts)
    unfolding read.values
    steady_values at c word ts =
        steady_last ts (read.listed end bytes ns (read.literal end bytes) ts) (read.listed end bytes ms (read.literal end bytes) ts) (λ vs. in_list at c vs word) (steady_listed (read.literal end bytes) ts)

    pub steady_in_part : (at : ℕ) (c : ColumnName) (word : ℕ) (ts : Tokens) → Steady (read.in_part end bytes ns at c word ts) (read.in_part end bytes ms at c word ts)
    unfolding read.in_part
    steady_in_part at c word ts =
        steady_if (is_open (kind ts)) _ _ _ _ (steady_if (is_select (kind (drop 1 ts))) _ _ _ _ (steady_subquery at (c ∷ []) word ts) (steady_values at c word ts)) (inr refl)

    pub steady_not_in_part : (at : ℕ) (c : ColumnName) (not_at word : ℕ) (ts : Tokens)
        → Steady (read.not_in_part end bytes ns at c not_at word ts) (read.not_in_part end bytes ms at c not_at word ts)
    unfolding read.not_in_part
    steady_not_in_part at c not_at word ts =
        steady_if (is_open (kind ts)) _ _ _ _ (steady_if (is_select (kind (drop 1 ts))) _ _ _ _ (inr refl)
        (steady_last ts (read.values end bytes ns at c word ts) (read.values end bytes ms at c word ts) (λ x. negated at x) (steady_values at c word ts))) (inr refl)

    steady_of_column : {A : Type 0} (x : Scalar) (f g : ColumnName → Read A) (ts : Tokens) → ((c : ColumnName) → Steady (f c) (g c)) → Steady (of_column end x f ts) (of_column end x g ts)
    steady_of_column (scalar.Column c) f g ts h = h c
    steady_of_column (scalar.Literal v at) f g ts h = inr refl

    pub steady_after_not : (at : ℕ) (a : Scalar) (not_at : ℕ) (ts : Tokens) → Steady (read.after_not end bytes ns at a not_at ts) (read.after_not end bytes ms at a not_at ts)
    unfolding read.after_not
    steady_after_not at a not_at ts =
        steady_if (is_between (kind ts)) _ _ _ _ (inr refl) (steady_if (is_in (kind ts)) _ _ _ _
        (steady_of_column a _ _ ts (λ c. steady_plus 1 _ _ (steady_not_in_part at c not_at (place end ts) (drop 1 ts)))) (inr refl))

    pub steady_after_operand : (at : ℕ) (a : Scalar) (ts : Tokens) → Steady (read.after_operand end bytes ns at a ts) (read.after_operand end bytes ms at a ts)
    unfolding read.after_operand
    steady_after_operand at a ts =
        steady_if (is_between (kind ts)) _ _ _ _ (inr refl) (steady_if (is_not (kind ts)) _ _ _ _ (steady_plus 1 _ _ (steady_after_not at a (place end ts) (drop 1 ts)))
        (steady_if (is_is (kind ts)) _ _ _ _ (inr refl) (steady_if (is_in (kind ts)) _ _ _ _
        (steady_of_column a _ _ ts (λ c. steady_plus 1 _ _ (steady_in_part at c (place end ts) (drop 1 ts)))) (inr refl))))

    pub steady_tuple_in : (ts : Tokens) → Steady (read.tuple_in end bytes ns ts) (read.tuple_in end bytes ms ts)
    unfolding read.tuple_in read.after_tuple
    steady_tuple_in ts =
        steady_followed ts (read.listed end bytes ns (read.column end bytes) ts) (read.listed end bytes ms (read.column end bytes) ts)
        (λ cs rest. read.after_tuple end bytes ns (place end ts) cs rest) (λ cs rest. read.after_tuple end bytes ms (place end ts) cs rest)
        (steady_listed (read.column end bytes) ts)
        (λ cs l. steady_if (is_in (kind l)) _ _ _ _ (steady_if (is_open (kind (drop 1 l))) _ _ _ _ (steady_if (is_select (kind (drop 2 l))) _ _ _ _
        (steady_plus 1 _ _ (steady_subquery (place end ts) cs (place end l) (drop 1 l))) (inr refl)) (inr refl)) (inr refl))

    pub steady_basic : (ts : Tokens) → Steady (read.basic end bytes ns ts) (read.basic end bytes ms ts)
    unfolding read.basic
    steady_basic ts =
        steady_if (is_open (kind ts)) _ _ _ _ (steady_if (is_select (kind (drop 1 ts))) _ _ _ _ (inr refl)
        (steady_if (read.opens_tuple ts) _ _ _ _ (steady_tuple_in ts) (below.conds ts)))
        (steady_followed ts (read.operand end bytes ts) (read.operand end bytes ts) (λ a rest. read.after_operand end bytes ns (place end ts) a rest)
        (λ a rest. read.after_operand end bytes ms (place end ts) a rest) (inr refl) (λ a l. steady_after_operand (place end ts) a l))

    pub steady_neg : (ts : Tokens) → Steady (read.neg end bytes ns ts) (read.neg end bytes ms ts)
    unfolding read.neg
    steady_neg ts = steady_if (is_not (kind ts)) _ _ _ _ (below.negs ts) (steady_basic ts)

    pub steady_conj : (ts : Tokens) → Steady (read.conj end bytes ns ts) (read.conj end bytes ms ts)
    unfolding read.conj
    steady_conj ts = steady_run is_and tree.all_of (read.neg end bytes ns) (read.neg end bytes ms) steady_neg ts

    pub steady_cond : (ts : Tokens) → Steady (read.cond end bytes ns ts) (read.cond end bytes ms ts)
    unfolding read.cond
    steady_cond ts = steady_run is_or tree.any_of (read.conj end bytes ns) (read.conj end bytes ms) steady_conj ts

    -- ---- FROM

    pub steady_columns : (ts : Tokens) → Steady (read.columns end bytes ns ts) (read.columns end bytes ms ts)
    unfolding read.columns
    steady_columns ts =
        steady_if (is_open (kind ts)) _ _ _ _ (steady_last ts (read.listed end bytes ns (read.name end bytes) ts) (read.listed end bytes ms (read.name end bytes) ts) (λ xs. Some xs)
        (steady_listed (read.name end bytes) ts)) (inr refl)

    pub steady_derived : (ts : Tokens) → Steady (read.derived_part end bytes ns ts) (read.derived_part end bytes ms ts)
    unfolding read.derived_part
    steady_derived ts =
        steady_followed ts (ns.queries ts) (ms.queries ts) _ _ (below.queries ts) (λ q l.
        steady_followed l (read.derived_name end bytes l) (read.derived_name end bytes l) _ _ (inr refl) (λ n r.
        steady_last r (read.columns end bytes ns r) (read.columns end bytes ms r) (λ cs. derived q n.0 cs (place end ts) n.1) (steady_columns r)))

    pub steady_primary : (ts : Tokens) → Steady (read.primary end bytes ns ts) (read.primary end bytes ms ts)
    unfolding read.primary
    steady_primary ts =
        steady_if (is_name (kind ts)) _ _ _ _ (inr refl)
        (steady_if (is_open (kind ts)) _ _ _ _ (steady_if (is_select (kind (drop 1 ts))) _ _ _ _ (steady_derived ts) (below.froms ts)) (inr refl))

    pub steady_join : (inside : Bool) (a : FromTree) (ts : Tokens) → Steady (read.join end bytes ns inside a ts) (read.join end bytes ms inside a ts)
    unfolding read.join
    steady_join inside a ts =
        steady_followed ts (read.join_words end ts) (read.join_words end ts) _ _ (inr refl) (λ k l.
        steady_followed l (read.primary end bytes ns l) (read.primary end bytes ms l) _ _ (steady_primary l) (λ b r.
        steady_followed r (expect (λ l. is_on (kind l)) (refusal end (no_join inside)) r) (expect (λ l. is_on (kind l)) (refusal end (no_join inside)) r) _ _ (inr refl) (λ _ q.
        steady_last q (read.cond end bytes ns q) (read.cond end bytes ms q) (λ c. join_of k a b c (place end r)) (steady_cond q))))

    pub steady_joined : (inside : Bool) (ts : Tokens) → Steady (read.joined end bytes ns inside ts) (read.joined end bytes ms inside ts)
    unfolding read.joined
    steady_joined inside ts =
        steady_followed ts (read.primary end bytes ns ts) (read.primary end bytes ms ts) _ _ (steady_primary ts)
        (λ a l. steady_repeat (λ l. begins_join (kind l)) (read.join end bytes ns inside) (read.join end bytes ms inside) (steady_join inside) a 0 l)

    pub steady_listed_part : (a : FromTree) (ts : Tokens) → Steady (read.listed_part end bytes ns a ts) (read.listed_part end bytes ms a ts)
    unfolding read.listed_part
    steady_listed_part a ts =
        steady_plus 1 _ _ (steady_last (drop 1 ts) (read.joined end bytes ns false (drop 1 ts)) (read.joined end bytes ms false (drop 1 ts)) (λ b. tree.comma a b (place end ts)) (steady_joined false (drop 1 ts)))

    pub steady_from_list : (ts : Tokens) → Steady (read.from_list end bytes ns ts) (read.from_list end bytes ms ts)
    unfolding read.from_list
    steady_from_list ts =
        steady_followed ts (read.joined end bytes ns false ts) (read.joined end bytes ms false ts) _ _ (steady_joined false ts)
        (λ a l. steady_repeat (λ l. is_comma (kind l)) (read.listed_part end bytes ns) (read.listed_part end bytes ms) steady_listed_part a 0 l)

    -- ---- queries

    pub steady_filter : (ts : Tokens) → Steady (read.filter end bytes ns ts) (read.filter end bytes ms ts)
    unfolding read.filter
    steady_filter ts =
        steady_if (is_where (kind ts)) _ _ _ _ (steady_plus 1 _ _ (steady_last (drop 1 ts) (read.cond end bytes ns (drop 1 ts)) (read.cond end bytes ms (drop 1 ts)) (λ c. filter_by c)
        (steady_cond (drop 1 ts)))) (inr refl)

    pub steady_body : (ts : Tokens) → Steady (read.body end bytes ns ts) (read.body end bytes ms ts)
    unfolding read.body
    steady_body ts =
        steady_followed ts (read.quantifier ts) (read.quantifier ts) _ _ (inr refl) (λ d l.
        steady_followed l (list (read.item end bytes) l) (list (read.item end bytes) l) _ _ (inr refl) (λ is r.
        steady_followed r (expect (λ l. is_from (kind l)) (refusal end syntax) r) (expect (λ l. is_from (kind l)) (refusal end syntax) r) _ _ (inr refl) (λ _ q.
        steady_followed q (read.from_list end bytes ns q) (read.from_list end bytes ms q) _ _ (steady_from_list q) (λ p s.
        steady_last s (read.filter end bytes ns s) (read.filter end bytes ms s) (λ f. select d is p f) (steady_filter s)))))

  -- what stands under so many levels answers the same under more
  pub steady_below : (l m : ℕ) → l ≤ m → SteadyBelow (read.nest end bytes l) (read.nest end bytes m)
  unfolding read.nest
  steady_below zero m h = record {
    room = λ e. absurd cc;
    negs = λ ts. inl (place end ts, refl);
    conds = λ ts. inl (place end ts, refl);
    queries = λ ts. inl (place end ts, refl);
    froms = λ ts. inl (place end ts, refl);
  }
  steady_below (suc l) zero h = absurd (omega (arith, h))
  steady_below (suc l) (suc m) h = by (steady_below l m (omega (arith, h)))
    where
      by : SteadyBelow (read.nest end bytes l) (read.nest end bytes m) → SteadyBelow (read.nest end bytes (suc l)) (read.nest end bytes (suc m))
      by below = record {
        room = λ e. refl;
        negs = λ ts. steady_plus 1 _ _ (steady_last (drop 1 ts) (read.neg end bytes (read.nest end bytes l) (drop 1 ts)) (read.neg end bytes (read.nest end bytes m) (drop 1 ts)) (λ c. negated (place end ts) c)
            (steady_neg (read.nest end bytes l) (read.nest end bytes m) below (drop 1 ts)));
        conds = λ ts. steady_within (read.cond end bytes (read.nest end bytes l)) (read.cond end bytes (read.nest end bytes m))
            (steady_cond (read.nest end bytes l) (read.nest end bytes m) below) (λ _. refusal end syntax) ts;
        queries = λ ts. steady_within (λ ts. plus 1 (read.body end bytes (read.nest end bytes l) (drop 1 ts))) (λ ts. plus 1 (read.body end bytes (read.nest end bytes m) (drop 1 ts)))
            (λ ts. steady_plus 1 _ _ (steady_body (read.nest end bytes l) (read.nest end bytes m) below (drop 1 ts))) (λ q. refusal end (no_query_end q)) ts;
        froms = λ ts. steady_within (read.joined end bytes (read.nest end bytes l) true) (read.joined end bytes (read.nest end bytes m) true)
            (steady_joined (read.nest end bytes l) (read.nest end bytes m) below true) (λ _. refusal end (no_join true)) ts;
      }

  -- with more levels a statement is answered the same, unless it is refused for want of a level
  pub more_levels : (l k : ℕ) (ts : Tokens) → IsTooDeep (statement_with end bytes l ts) ⊎ (statement_with end bytes (l + k) ts ≡ statement_with end bytes l ts)
  more_levels l k ts =
      steady_if (is_select (kind ts)) _ _ _ _ (steady_plus 1 _ _ (steady_followed (drop 1 ts) (read.body end bytes (read.nest end bytes l) (drop 1 ts)) (read.body end bytes (read.nest end bytes (l + k)) (drop 1 ts))
      (λ q rest. if is_end (kind rest) then Ok (q, 0) else no end (no_query_end q (kind rest)) rest) (λ q rest. if is_end (kind rest) then Ok (q, 0) else no end (no_query_end q (kind rest)) rest)
      (steady_body (read.nest end bytes l) (read.nest end bytes (l + k)) (steady_below l (l + k) (omega arith)) (drop 1 ts)) (λ q rest. inr refl))) (inr refl)
