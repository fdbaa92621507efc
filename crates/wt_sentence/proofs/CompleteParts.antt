-- What the grammar derives is read: names, columns, literals, operands, items.
use Rattle.std.proofs.Common.{◌≡◌, ℕ, ◌^◌, ◌<◌, ◌≤◌, inl, inr, Bool, true, false, List, [], ◌∷◌, ◌++◌, length, drop, refl, ap, sym, ◌∙◌, append_assoc, add-zero, Ok, Option, Some, None, subst}
use Rattle.std.proofs.lemmas.Bool.{lt-ltb, le-ltb}
use Rattle.std.specs.Prelude.{◌&&◌, pos, neg_ℤ}
use Rattle.wt_value.specs.declared.value.Value.{Value}
use Rattle.wt_value.specs.declared.value.Value.TheVariants as value
use Rattle.wt_ast.specs.declared.tree.ColumnName.{ColumnName}
use Rattle.wt_ast.specs.declared.tree.Item.TheVariants as items
use Rattle.wt_ast.specs.declared.tree.Scalar.{Scalar}
use Rattle.wt_ast.specs.declared.tree.Scalar.TheVariants as scalar
use Rattle.wt_ast.specs.Tree.{CondTree, CondTrees}
use Rattle.wt_reading.specs.declared.lexeme.Kind.{Kind}
use Rattle.wt_reading.specs.declared.lexeme.Kind.TheVariants.{Name}
use Rattle.wt_grammar.specs.declared.fault.QueryFault.{QueryFault}
use Rattle.wt_reading.specs.Lexemes.{Tokens, kind, place, at, is_name, is_open, is_comma}
use Rattle.wt_grammar.specs.Kinds.{is_dot, is_star, is_as}
use Rattle.wt_grammar.specs.Refusals.{beyond}
use Rattle.wt_reading.specs.Readings.{plus, followed, more, list, expect}
use Rattle.wt_grammar.specs.Reading.{Read, refusal, run, one_or, name, column, operand, operand_by, literal, literal_by, alias, item, item_front, ended, ended_by, unsigned, negative, negative_by, listed_negative, name_at, text_at, name_only}
use Rattle.wt_reading.specs.Sentences.{Is, IsAt, Behind, Listed}
use Rattle.wt_sentence.specs.Grammar.{Run, Column, Literal, AnyLiteral, Operand, Named, Alias, IsItem}
use Rattle.wt_sentence.specs.Grammar as spec
use Rattle.wt_reading.proofs.Took.{drop_front}
use Rattle.wt_reading.proofs.Complete as general
use Rattle.wt_reading.proofs.Complete.{then_reads, last_reads, plus_one}
use Rattle.wt_sentence.proofs.Follows.{Plain, name_is, as_is}

-- ---- readings put together

-- each sentence of the part is read before what may follow it
abbrev pub Completes : {A : Type 0} → (A → Tokens → Type 0) → (Kind → Type 0) → (Tokens → Read A) → Type 0
Completes {A} Part Follow part = (a rest : Tokens) (x : A) → Part x a → Follow (kind rest) → part (a ++ rest) ≡ Ok (x, length a)

pub list_reads : {A : Type 0} (Part : A → Tokens → Type 0) (Follow : Kind → Type 0) (part : Tokens → Read A) → Completes Part Follow part
    → ((k : Kind) → is_comma k ≡ true → Follow k) → (a rest : Tokens) (xs : List A) → Listed Part xs a → Follow (kind rest) → is_comma (kind rest) ≡ false
    → list part (a ++ rest) ≡ Ok (xs, length a)
list_reads Part Follow part complete comma = general.list_reads Part (λ ts. Follow (kind ts)) part complete (λ ts. comma (kind ts))

follows : {A : Type 0} (sep : Kind → Bool) (Part : A → Tokens → Type 0) (Follow : Kind → Type 0) → ((k : Kind) → sep k ≡ true → Follow k) → (b rest : Tokens) (xs : List A) → Behind sep Part xs b
    → Follow (kind rest) → Follow (kind (b ++ rest))
follows sep Part Follow joint b rest [] h f = subst (λ b. Follow (kind (b ++ rest))) (sym h) f
follows sep Part Follow joint b rest (x ∷ xs) (s, c, e, (t, e', w), q) f = subst (λ b. Follow (kind (b ++ rest))) (sym (e ∙ ap (λ z. z ++ c) e')) (joint t.kind w)

pub run_reads : (sep : Kind → Bool) (whole : ℕ → CondTrees → CondTree) (Part : CondTree → Tokens → Type 0) (Follow : Kind → Type 0) (part : Tokens → Read CondTree) → Completes Part Follow part
    → ((k : Kind) → sep k ≡ true → Follow k) → (a rest : Tokens) (c : CondTree) → Run sep whole Part c a → Follow (kind rest) → sep (kind rest) ≡ false
    → run sep whole part (a ++ rest) ≡ Ok (c, length a)
unfolding run
run_reads sep whole Part Follow part complete joint ts rest c (x, xs, (a, b, e, p, q), is) f s =
    then_reads part (λ x rest. followed rest (more sep part 0 rest) (λ xs r. Ok (one_or whole x xs, 0))) ts a b rest x (one_or whole x xs) e
    (complete a (b ++ rest) x p (follows sep Part Follow joint b rest xs q f))
    (last_reads (more sep part 0) (λ xs. one_or whole x xs) b rest xs (general.behind_reads sep Part (λ ts. Follow (kind ts)) part complete (λ ts. joint (kind ts)) b rest xs q f s))
    ∙ ap (λ z. Ok (z, length ts)) (sym is)

-- a value that is followed by what may follow it
pub ended_reads : {A : Type 0} (end : ℕ) (part : Tokens → Read A) (ts rest : Tokens) (x : A) → beyond (kind rest) ≡ None → part (ts ++ rest) ≡ Ok (x, length ts)
    → ended end (ts ++ rest) (part (ts ++ rest)) ≡ Ok (x, length ts)
ended_reads end part ts rest x none h =
    ap (λ r. followed (ts ++ rest) r (λ x rest. ended_by end (beyond (kind rest)) x rest)) h
    ∙ ap (λ l. plus (length ts) (ended_by end (beyond (kind l)) x l)) (drop_front ts rest)
    ∙ ap (λ o. plus (length ts) (ended_by end o x rest)) none
    ∙ ap (λ n. Ok (x, n)) (add-zero (length ts))

-- one token that has to stand here
pub expect_reads : (end : ℕ) (wanted : Kind → Bool) (other : Kind → QueryFault) (a rest : Tokens) → Is wanted a → expect (at wanted) (refusal end other) (a ++ rest) ≡ Ok (tt, length a)
unfolding expect
expect_reads end wanted other a rest (t, e, w) = subst (λ l. expect (at wanted) (refusal end other) (l ++ rest) ≡ Ok (tt, length l)) (sym e) (rw w refl)

pub is_at : (wanted : Kind → Bool) (at : ℕ) (a : Tokens) → IsAt wanted at a → Is wanted a
is_at wanted at a (t, e, w) = (t, e, w.0)

module _ (end : ℕ) (bytes : List ℕ) where
  pub name_reads : (a rest : Tokens) (n : List ℕ) (at : ℕ) → spec.NameAt end bytes n at a → is_open (kind rest) ≡ false → name end bytes (a ++ rest) ≡ Ok (n, length a)
  unfolding name name_at
  name_reads a rest n at (t, e, (is, ne, ate)) f =
      subst (λ l. name end bytes (l ++ rest) ≡ Ok (n, length l)) (sym e) (rw (is, f) (ap (λ z. Ok (z, 1)) (sym ne)))

  pub any_name_reads : Completes (spec.Name end bytes) (λ k. is_open k ≡ false) (name end bytes)
  any_name_reads a rest n (at, p) f = name_reads a rest n at p f

  pub column_reads : Completes (Column end bytes) (λ k. (is_dot k ≡ false) × (is_open k ≡ false)) (column end bytes)
  unfolding column name_at
  column_reads a rest c (inl (n, at, (t, e, (is, ne, ate)), ce)) f =
      let read : name end bytes (t ∷ rest) ≡ Ok (n, 1) = name_reads (t ∷ []) rest n at (t, refl, (is, ne, ate)) f.1 in
      subst (λ l. column end bytes (l ++ rest) ≡ Ok (c, length l)) (sym e)
      (rw (is, f.0) (last_reads (name end bytes) (λ n. record { table = None; name = n; at = t.token.start }) (t ∷ []) rest n read
      ∙ ap (λ z. Ok (z, 1)) (ap (λ z. record { table = None; name = n; at = z }) (sym ate) ∙ sym ce)))
  column_reads a rest c (inr (q, n, at, (b, b', e, (t, e', (is, ne, ate)), (d, d', e'', (u, eu, dot), (at', (v, ev, named)))), ce)) f =
      let whole : a ≡ t ∷ u ∷ v ∷ [] = e ∙ (λ i. e' i ++ (e'' ∙ (λ j. eu j ++ ev j)) i) in
      let read : name end bytes (v ∷ rest) ≡ Ok (n, 1) = name_reads (v ∷ []) rest n at' (v, refl, named) f.1 in
      subst (λ l. column end bytes (l ++ rest) ≡ Ok (c, length l)) (sym whole)
      (rw (is, dot) (ap (plus 2) (last_reads (name end bytes) (λ n. record { table = Some (name_at bytes (t ∷ u ∷ v ∷ rest)); name = n; at = t.token.start }) (v ∷ []) rest n read)
      ∙ ap (λ z. Ok (z, 3)) ((λ i. record { table = Some (sym ne i); name = n; at = sym ate i }) ∙ sym ce)))

  literal_place : (a rest : Tokens) (v : Value) (at : ℕ) → Literal end bytes v at a → at ≡ place end (a ++ rest)
  literal_place a rest v at (inl (n, (t, e, (k, ate)), small, ve)) = ate ∙ ap (λ l. place end (l ++ rest)) (sym e)
  literal_place a rest v at (inr (inl (t, e, (k, ate, ve)))) = ate ∙ ap (λ l. place end (l ++ rest)) (sym e)
  literal_place a rest v at (inr (inr (n, (b, c, e, (t, e', (k, ate)), q), small, ve))) = ate ∙ ap (λ l. place end (l ++ rest)) (sym (e ∙ ap (λ z. z ++ c) e'))

  unsigned_reads : (n : ℕ) (ts : Tokens) → n < 2 ^ 63 → unsigned end n ts ≡ Ok (value.Int (pos n), 1)
  unsigned_reads n ts h = let e = lt-ltb n (2 ^ 63) h in rw e refl

  negative_reads : (n : ℕ) (ts : Tokens) → n ≤ 2 ^ 63 → negative end n ts ≡ Ok (value.Int (neg_ℤ (pos n)), 2)
  negative_reads n ts h = let e = le-ltb (2 ^ 63) n h in rw e refl

  pub literal_reads : Completes (AnyLiteral end bytes) (λ k. Unit {0}) (literal end bytes)
  unfolding literal text_at
  literal_reads a rest v (at, inl (n, (t, e, (k, ate)), small, ve)) f =
      subst (λ l. literal end bytes (l ++ rest) ≡ Ok (v, length l)) (sym e)
      (ap (λ z. literal_by end bytes z (t ∷ rest)) k ∙ unsigned_reads n (t ∷ rest) small ∙ ap (λ z. Ok (z, 1)) (sym ve))
  literal_reads a rest v (at, inr (inl (t, e, (k, ate, ve)))) f =
      subst (λ l. literal end bytes (l ++ rest) ≡ Ok (v, length l)) (sym e)
      (ap (λ z. literal_by end bytes z (t ∷ rest)) k ∙ ap (λ z. Ok (z, 1)) (sym ve))
  literal_reads a rest v (at, inr (inr (n, (b, c, e, (t, e', (k, ate)), (u, e'', k')), small, ve))) f =
      subst (λ l. literal end bytes (l ++ rest) ≡ Ok (v, length l)) (sym (e ∙ (λ i. e' i ++ e'' i)))
      (ap (λ z. literal_by end bytes z (t ∷ u ∷ rest)) k ∙ ap (λ z. listed_negative end z (t ∷ u ∷ rest)) k' ∙ negative_reads n (t ∷ u ∷ rest) small ∙ ap (λ z. Ok (z, 2)) (sym ve))

  operand_front : (a rest : Tokens) (x : Scalar) → Operand end bytes x a → is_dot (kind rest) ≡ false → is_open (kind rest) ≡ false
      → operand_by end bytes (kind (a ++ rest)) (a ++ rest) ≡ Ok (x, length a)
  unfolding text_at
  operand_front a rest x (inl (c, p, xe)) nd np =
      ap (λ z. operand_by end bytes z (a ++ rest)) (column_kind p)
      ∙ last_reads (column end bytes) (λ c. scalar.Column c) a rest c (column_reads a rest c p (nd, np)) ∙ ap (λ z. Ok (z, length a)) (sym xe)
    where
      column_kind : Column end bytes c a → kind (a ++ rest) ≡ Name
      column_kind (inl (n, at, (t, e, w), ce)) = ap (λ l. kind (l ++ rest)) e ∙ name_is t.kind w.0
      column_kind (inr (q, n, at, (b, b', e, (t, e', w), r), ce)) = ap (λ l. kind (l ++ rest)) (e ∙ ap (λ z. z ++ b') e') ∙ name_is t.kind w.0
  operand_front a rest x (inr (v, at, inl (n, (t, e, (k, ate)), small, ve), xe)) nd np =
      subst (λ l. operand_by end bytes (kind (l ++ rest)) (l ++ rest) ≡ Ok (x, length l)) (sym e)
      (ap (λ z. operand_by end bytes z (t ∷ rest)) k
      ∙ last_reads (unsigned end n) (λ v. scalar.Literal v t.token.start) (t ∷ []) rest (value.Int (pos n)) (unsigned_reads n (t ∷ rest) small)
      ∙ ap (λ z. Ok (z, 1)) ((λ i. scalar.Literal (sym ve i) (sym ate i)) ∙ sym xe))
  operand_front a rest x (inr (v, at, inr (inl (t, e, (k, ate, ve))), xe)) nd np =
      subst (λ l. operand_by end bytes (kind (l ++ rest)) (l ++ rest) ≡ Ok (x, length l)) (sym e)
      (ap (λ z. operand_by end bytes z (t ∷ rest)) k ∙ ap (λ z. Ok (z, 1)) ((λ i. scalar.Literal (sym ve i) (sym ate i)) ∙ sym xe))
  operand_front a rest x (inr (v, at, inr (inr (n, (b, c, e, (t, e', (k, ate)), (u, e'', k')), small, ve)), xe)) nd np =
      subst (λ l. operand_by end bytes (kind (l ++ rest)) (l ++ rest) ≡ Ok (x, length l)) (sym (e ∙ (λ i. e' i ++ e'' i)))
      (ap (λ z. operand_by end bytes z (t ∷ u ∷ rest)) k
      ∙ last_reads (λ l. negative_by end (kind (drop 1 l)) l) (λ v. scalar.Literal v t.token.start) (t ∷ u ∷ []) rest (value.Int (neg_ℤ (pos n)))
      (ap (λ z. negative_by end z (t ∷ u ∷ rest)) k' ∙ negative_reads n (t ∷ u ∷ rest) small)
      ∙ ap (λ z. Ok (z, 2)) ((λ i. scalar.Literal (sym ve i) (sym ate i)) ∙ sym xe))

  pub operand_reads : Completes (Operand end bytes) Plain (operand end bytes)
  unfolding operand
  operand_reads a rest x p f = ended_reads end (λ l. operand_by end bytes (kind l) l) a rest x f.not_beyond (operand_front a rest x p f.not_dot f.not_open)

  -- an alias that is not written is followed by no name
  pub alias_reads : Completes (Alias end bytes) Plain (alias end bytes)
  unfolding alias
  alias_reads a rest o (inl (e, oe)) f =
      subst (λ l. alias end bytes (l ++ rest) ≡ Ok (o, length l)) (sym e) (let na = f.not_as in let nn = f.not_name in rw (na, nn) (ap (λ z. Ok (z, 0)) (sym oe)))
  alias_reads a rest o (inr (n, at, inl (t, e, (is, ne, ate)), oe)) f =
      let read : name end bytes (t ∷ rest) ≡ Ok (n, 1) = name_reads (t ∷ []) rest n at (t, refl, (is, ne, ate)) f.not_open in
      let no_as = ap is_as (name_is t.kind is) in
      subst (λ l. alias end bytes (l ++ rest) ≡ Ok (o, length l)) (sym e)
      (rw (no_as, is) (last_reads (name end bytes) (λ n. Some (n, t.token.start)) (t ∷ []) rest n read
      ∙ ap (λ z. Ok (z, 1)) (ap (λ z. Some (n, z)) (sym ate) ∙ sym oe)))
  alias_reads a rest o (inr (n, at, inr (b, c, e, (t, e', is), (u, e'', (iu, ne, ate))), oe)) f =
      let read : name end bytes (u ∷ rest) ≡ Ok (n, 1) = name_reads (u ∷ []) rest n at (u, refl, (iu, ne, ate)) f.not_open in
      subst (λ l. alias end bytes (l ++ rest) ≡ Ok (o, length l)) (sym (e ∙ (λ i. e' i ++ e'' i)))
      (rw is (ap (plus 1) (last_reads (name end bytes) (λ n. Some (n, u.token.start)) (u ∷ []) rest n read)
      ∙ ap (λ z. Ok (z, 2)) (ap (λ z. Some (n, z)) (sym ate) ∙ sym oe)))

  -- what stands behind a column that an alias may follow
  alias_front : (b rest : Tokens) (o : Option (List ℕ × ℕ)) → Alias end bytes o b → Plain (kind rest) → (is_dot (kind (b ++ rest)) ≡ false) × (is_open (kind (b ++ rest)) ≡ false)
  alias_front b rest o (inl (e, oe)) f = (ap (λ l. is_dot (kind (l ++ rest))) e ∙ f.not_dot, ap (λ l. is_open (kind (l ++ rest))) e ∙ f.not_open)
  alias_front b rest o (inr (n, at, inl (t, e, w), oe)) f =
      (ap (λ l. is_dot (kind (l ++ rest))) e ∙ ap is_dot (name_is t.kind w.0), ap (λ l. is_open (kind (l ++ rest))) e ∙ ap is_open (name_is t.kind w.0))
  alias_front b rest o (inr (n, at, inr (c, d, e, (t, e', is), q), oe)) f =
      let first = e ∙ ap (λ z. z ++ d) e' in
      (ap (λ l. is_dot (kind (l ++ rest))) first ∙ ap is_dot (as_is t.kind is), ap (λ l. is_open (kind (l ++ rest))) first ∙ ap is_open (as_is t.kind is))

  -- a column is no `*` and no `name.*`
  column_front : (b l : Tokens) (c : ColumnName) → Column end bytes c b → is_dot (kind l) ≡ false
      → (is_name (kind (b ++ l)) ≡ true) × (is_star (kind (b ++ l)) ≡ false) × ((is_name (kind (b ++ l)) && is_dot (kind (drop 1 (b ++ l))) && is_star (kind (drop 2 (b ++ l)))) ≡ false)
  column_front b l c (inl (n, at, (t, e, (is, w, w1)), ce)) nd =
      let none : (is_name t.kind && is_dot (kind l) && is_star (kind (drop 1 l))) ≡ false = rw (is, nd) refl in (
        ap (λ z. is_name (kind (z ++ l))) e ∙ is,
        ap (λ z. is_star (kind (z ++ l))) e ∙ ap is_star (name_is t.kind is),
        ap (λ z. is_name (kind (z ++ l)) && is_dot (kind (drop 1 (z ++ l))) && is_star (kind (drop 2 (z ++ l)))) e ∙ none,
      )
  column_front b l c (inr (q, n, at, (b1, b2, e, (t, e1, (is, w, w1)), (d, d', e2, (u, eu, dot), (at', (v, ev, (nv, w2, w3))))), ce)) nd =
      let whole : b ≡ t ∷ u ∷ v ∷ [] = e ∙ (λ i. e1 i ++ (e2 ∙ (λ j. eu j ++ ev j)) i) in
      let no_star = ap is_star (name_is v.kind nv) in
      let none : (is_name t.kind && is_dot u.kind && is_star v.kind) ≡ false = rw (is, dot, no_star) refl in (
        ap (λ z. is_name (kind (z ++ l))) whole ∙ is,
        ap (λ z. is_star (kind (z ++ l))) whole ∙ ap is_star (name_is t.kind is),
        ap (λ z. is_name (kind (z ++ l)) && is_dot (kind (drop 1 (z ++ l))) && is_star (kind (drop 2 (z ++ l)))) whole ∙ none,
      )

  item_front_reads : Completes (IsItem end bytes) Plain (item_front end bytes)
  unfolding item_front name_at
  item_front_reads a rest i (inl (at, (t, e, (is, ate)), ie)) f =
      subst (λ l. item_front end bytes (l ++ rest) ≡ Ok (i, length l)) (sym e) (rw is (ap (λ z. Ok (z, 1)) (ap items.Star (sym ate) ∙ sym ie)))
  item_front_reads a rest i (inr (inl (n, at, (b, b', e, (t, e', (is, ne, ate)), (d, d', e'', (u, eu, dot), (v, ev, star))), ie))) f =
      let no_star = ap is_star (name_is t.kind is) in
      subst (λ l. item_front end bytes (l ++ rest) ≡ Ok (i, length l)) (sym (e ∙ (λ i. e' i ++ (e'' ∙ (λ j. eu j ++ ev j)) i)))
      (rw (no_star, is, dot, star) (ap (λ z. Ok (z, 3)) ((λ i. items.AllOf (sym ne i) (sym ate i)) ∙ sym ie)))
  item_front_reads a rest i (inr (inr (c, o, (b, b', e, p, q), ie))) f =
      let behind = alias_front b' rest o q f in
      let (name_first, not_star, not_all) = column_front b (b' ++ rest) c p behind.0 in
      let whole = ap (λ l. l ++ rest) e ∙ append_assoc b b' rest in
      ap (item_front end bytes) whole
      ∙ rw (not_star, not_all, name_first) refl
      ∙ ap (λ l. followed l (column end bytes l) (λ c rest. followed rest (alias end bytes rest) (λ a r. Ok (items.Column c (name_only a), 0)))) (sym whole)
      ∙ then_reads (column end bytes) (λ c rest. followed rest (alias end bytes rest) (λ a r. Ok (items.Column c (name_only a), 0))) a b b' rest c (items.Column c (name_only o)) e
      (column_reads b (b' ++ rest) c p behind)
      (last_reads (alias end bytes) (λ o. items.Column c (name_only o)) b' rest o (alias_reads b' rest o q f))
      ∙ ap (λ z. Ok (z, length a)) (sym ie)

  pub item_reads : Completes (IsItem end bytes) Plain (item end bytes)
  unfolding item
  item_reads a rest i p f = ended_reads end (item_front end bytes) a rest i f.not_beyond (item_front_reads a rest i p f)
