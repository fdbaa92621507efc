-- Names, columns, literals, operands, items and lists are read by the tokens that they take and the one behind them.
use Rattle.std.proofs.Common.{◌≡◌, ℕ, suc, zero, ◌+◌, ◌≤◌, ◌<◌, ◌^◌, Bool, true, false, List, [], ◌∷◌, length, drop, refl, ap, ◌∙◌, arith, Ok, Err, Option, Some, None, nat_lt, length-drop}
use Rattle.std.specs.Prelude.{if◌then◌else◌, ◌&&◌, pos, neg_ℤ}
use Rattle.wt_value.specs.declared.value.Value.{Value}
use Rattle.wt_value.specs.declared.value.Value.TheVariants as value
use Rattle.wt_lex.specs.declared.token.LexFault.TheVariants.{NumberRange}
use Rattle.wt_lex.specs.declared.token.Sym.TheVariants as sym
use Rattle.wt_ast.specs.declared.tree.ColumnName.{ColumnName}
use Rattle.wt_ast.specs.declared.tree.Item.{Item}
use Rattle.wt_ast.specs.declared.tree.Item.TheVariants as items
use Rattle.wt_ast.specs.declared.tree.Scalar.TheVariants as scalar
use Rattle.wt_ast.specs.Tree.{CondTree, CondTrees}
use Rattle.wt_reading.specs.declared.lexeme.Kind.{Kind}
use Rattle.wt_reading.specs.declared.lexeme.Kind.TheVariants.{End, Key, Number, Text, Mark}
use Rattle.wt_lex.specs.declared.words.Word.TheVariants as word
use Rattle.wt_grammar.specs.declared.fault.QueryFault.{QueryFault}
use Rattle.wt_grammar.specs.declared.fault.QueryFault.TheVariants as fault
use Rattle.wt_reading.specs.Lexemes.{Tokens, kind, place, is_name, is_open, is_close, is_comma}
use Rattle.wt_grammar.specs.Kinds.{is_dot, is_star, is_as}
use Rattle.wt_grammar.specs.Refusals.{beyond, no_operand, no_literal, no_item}
use Rattle.wt_grammar.specs.Reading as read
use Rattle.wt_reading.specs.Readings.{plus, followed, taken, joined_to, more, list, expect, within}
use Rattle.wt_grammar.specs.Reading.{Read, Refusal, refused, refusal, odd, run, one_or, ended, ended_by, name_at, text_at, name_only}
use Rattle.wt_reading.proofs.Inversions.{skip}
use Rattle.wt_refusal.specs.Refused.{looked}
use Rattle.wt_refusal.proofs.Local.{AtFront, kind_front, place_front, some_looked, agree_front, LocalAt, Local, too_deep, value_at, refusal_at, table_at, less_at, as_at, seen_at, test_at, behind_at, next_at, then_at, last_at}

-- a separator, the part behind it, and more
abbrev turn : {A : Type 0} → (Kind → Bool) → (Tokens → Read A) → Tokens → Read (List A)
turn sep part l = followed l (part l) (λ x rest. followed rest (more sep part 0 rest) (λ xs r. Ok (x ∷ xs, 0)))

more_as : {A : Type 0} (sep : Kind → Bool) (part : Tokens → Read A) → sep End ≡ false → (ts : Tokens) → more sep part 0 ts ≡ (if sep (kind ts) then plus 1 (turn sep part (drop 1 ts)) else Ok ([], 0))
unfolding more
more_as sep part sep_end [] = rw sep_end refl
more_as {A} sep part sep_end (t ∷ ts) = ap (λ z. if sep t.kind then z else Ok ([], 0)) (by (part ts))
  where
    one : (x : A × ℕ) (q : Read (List A)) → joined_to (Ok x) q ≡ plus 1 (plus x.1 (followed (drop x.1 ts) q (λ xs r. Ok (x.0 ∷ xs, 0))))
    one x (Ok xs) = let e : x.1 + xs.1 + 1 ≡ 1 + (x.1 + (xs.1 + 0)) = omega arith in ap (λ n. Ok (x.0 ∷ xs.0, n)) e
    one x (Err e) = refl

    by : (r : Read A) → joined_to r (more sep part (taken r) ts) ≡ plus 1 (followed ts r (λ x rest. followed rest (more sep part 0 rest) (λ xs r. Ok (x ∷ xs, 0))))
    by (Ok x) = ap (joined_to (Ok x)) (skip sep part x.1 ts) ∙ one x (more sep part 0 (drop x.1 ts))
    by (Err e) = refl

-- no table has a refusal for want of a level
operand_table : (k behind : Kind) → too_deep (refused (no_operand k behind)) ≡ false
operand_table (Key word.Exists) j = refl
operand_table (Key word.Case) j = refl
operand_table (Key word.Cast) j = refl
operand_table (Key word.Null) j = refl
operand_table (Key word.True) j = refl
operand_table (Key word.False) j = refl
operand_table (Mark sym.Question) j = refl
operand_table (Mark sym.Dollar) j = refl
operand_table (Mark sym.Colon) j = refl
operand_table (Mark sym.Plus) j = refl
operand_table (Mark sym.Minus) j = refl
operand_table (Mark sym.Open) (Key word.Select) = refl
operand_table (Mark sym.Open) j = refl
operand_table k j = refl

item_table : (k behind : Kind) → too_deep (refused (no_item k behind)) ≡ false
item_table (Number n) j = refl
item_table Text j = refl
item_table (Mark sym.Minus) (Number n) = refl
item_table k j = operand_table k j

pub some_there : (test : Kind → Bool) → test End ≡ false → (ts : Tokens) → test (kind ts) ≡ true → 1 ≤ length ts
some_there test none [] h = absurd cc
some_there test none (t ∷ ts) h = omega arith

module _ (end : ℕ) (bytes : List ℕ) where
  module _ {A : Type 0} (sep : Kind → Bool) (sep_end : sep End ≡ false) (part : Tokens → Read A) (local : Local end bytes 0 part) where
    one_more : (ts : Tokens) → ((l : Tokens) → length l < length ts → LocalAt end bytes 0 (more sep part 0) l) → LocalAt end bytes 0 (more sep part 0) ts
    one_more ts ih =
        as_at end bytes 0 (more sep part 0) (λ us. if sep (kind us) then plus 1 (turn sep part (drop 1 us)) else Ok ([], 0)) ts (λ us a. more_as sep part sep_end us)
        (test_at end bytes sep 0 0 (λ us. plus 1 (turn sep part (drop 1 us))) (λ us. Ok ([], 0)) ts (omega arith) (λ s.
        next_at end bytes (turn sep part) ts
        (then_at end bytes 0 part _ (drop 1 ts) (local (drop 1 ts)) (λ x m e. last_at end bytes 0 (more sep part 0) (λ xs. x ∷ xs) (drop m (drop 1 ts)) (ih (drop m (drop 1 ts))
        (omega (arith, some_there sep sep_end ts s, length-drop m (drop 1 ts), length-drop 1 ts))))))
        (λ s. value_at end bytes 0 0 [] ts (omega arith)))

    more_to : (bound : ℕ) (ts : Tokens) → length ts ≤ bound → LocalAt end bytes 0 (more sep part 0) ts
    more_to zero ts h = one_more ts (λ l g. absurd (omega (arith, h, g)))
    more_to (suc bound) ts h = one_more ts (λ l g. more_to bound l (omega (arith, h, g)))

    pub more_local : Local end bytes 0 (more sep part 0)
    more_local ts = more_to (length ts) ts (omega arith)

  pub list_at : {A : Type 0} (d : ℕ) (part : Tokens → Read A) → Local end bytes 0 part → (ts : Tokens) → LocalAt end bytes d part ts → LocalAt end bytes d (list part) ts
  unfolding list
  list_at d part local ts first =
      then_at end bytes d part _ ts first (λ x m e. last_at end bytes 0 (more is_comma part 0) (λ xs. x ∷ xs) (drop m ts) (more_local is_comma refl part local (drop m ts)))

  pub run_local : (sep : Kind → Bool) (whole : ℕ → CondTrees → CondTree) (part : Tokens → Read CondTree) → sep End ≡ false → Local end bytes 0 part → Local end bytes 0 (run sep whole part)
  unfolding run
  run_local sep whole part sep_end local ts =
      then_at end bytes 0 part _ ts (local ts) (λ x m e. last_at end bytes 0 (more sep part 0) (λ xs. one_or whole x xs) (drop m ts) (more_local sep sep_end part local (drop m ts)))

  -- refused as the kind of the token at the front
  pub by_kind : (A : Type 0) (other : Kind → QueryFault) (ts : Tokens) → LocalAt end bytes {A = A} 0 (λ us. Err (refused (other (kind us)), place end us)) ts
  by_kind A other ts = seen_at end bytes kind kind_front 0 0 (λ k us. Err (refused (other k), place end us)) ts (omega arith) (refusal_at end bytes A 0 0 (refused (other (kind ts))) ts (omega (arith, some_looked (refused (other (kind ts))) (kind ts))))

  pub expect_local : (wanted : Kind → Bool) (other : Kind → QueryFault) → Local end bytes 0 (expect (λ l. wanted (kind l)) (refusal end other))
  unfolding expect
  expect_local wanted other ts =
      test_at end bytes wanted 0 0 (λ us. Ok (tt, 1)) (λ us. Err (refused (other (kind us)), place end us)) ts (omega arith) (λ s. value_at end bytes 0 1 tt ts (omega arith))
      (λ s. by_kind (Unit {0}) other ts)

  -- a part behind the token at the front, and the parenthesis that closes it
  pub closed_at : {A : Type 0} (d : ℕ) (part : Tokens → Read A) (other : A → Kind → QueryFault) (ts : Tokens) → LocalAt end bytes d part (drop 1 ts) → LocalAt end bytes (1 + d) (within part (λ x. refusal end (other x))) ts
  closed_at d part other ts inside =
      behind_at end bytes 1 d (λ l. followed l (part l) (λ x rest. followed rest (expect (λ l. is_close (kind l)) (refusal end (other x)) rest) (λ _ r. Ok (x, 0)))) ts
      (then_at end bytes d part (λ x rest. followed rest (expect (λ l. is_close (kind l)) (refusal end (other x)) rest) (λ _ r. Ok (x, 0))) (drop 1 ts) inside
      (λ x m e. last_at end bytes 0 (expect (λ l. is_close (kind l)) (refusal end (other x))) (λ _. x) (drop m (drop 1 ts)) (expect_local is_close (other x) (drop m (drop 1 ts)))))

  pub ended_at : {A : Type 0} (part : Tokens → Read A) (ts : Tokens) → LocalAt end bytes 0 part ts → LocalAt end bytes 0 (λ us. ended end us (part us)) ts
  ended_at {A} part ts local =
      then_at end bytes 0 part (λ x rest. ended_by end (beyond (kind rest)) x rest) ts local (λ x m e.
      seen_at end bytes kind kind_front 0 0 (λ k rest. ended_by end (beyond k) x rest) (drop m ts) (omega arith) (by x (drop m ts) (beyond (kind (drop m ts)))))
    where
      by : (x : A) (l : Tokens) (o : Option QueryFault) → LocalAt end bytes 0 (ended_by end o x) l
      by x l None = value_at end bytes 0 0 x l (omega arith)
      by x l (Some f) = refusal_at end bytes A 0 0 (refused f) l (omega (arith, some_looked (refused f) (kind l)))

  -- ---- names and columns

  name_and_place : Tokens → List ℕ × ℕ
  name_and_place l = (name_at bytes l, place end l)

  name_front : AtFront name_and_place
  unfolding name_at name_and_place
  name_front [] = refl
  name_front (t ∷ l) = refl

  text_and_place : Tokens → List ℕ × ℕ
  text_and_place l = (text_at bytes l, place end l)

  text_front : AtFront text_and_place
  unfolding text_at text_and_place
  text_front [] = refl
  text_front (t ∷ l) = refl

  -- a reading that takes the place, the name or the text of the token at the front
  pub by_place : {A : Type 0} (d : ℕ) (by : ℕ → Tokens → Read A) (ts : Tokens) → LocalAt end bytes d (by (place end ts)) ts → LocalAt end bytes d (λ us. by (place end us) us) ts
  by_place d by ts = seen_at end bytes (place end) (place_front end) 0 d by ts (omega arith)

  pub by_name : {A : Type 0} (d : ℕ) (by : List ℕ → ℕ → Tokens → Read A) (ts : Tokens) → LocalAt end bytes d (by (name_at bytes ts) (place end ts)) ts
      → LocalAt end bytes d (λ us. by (name_at bytes us) (place end us) us) ts
  unfolding name_and_place
  by_name d by ts = seen_at end bytes name_and_place name_front 0 d (λ f. by f.0 f.1) ts (omega arith)

  by_text : {A : Type 0} (d : ℕ) (by : List ℕ → ℕ → Tokens → Read A) (ts : Tokens) → LocalAt end bytes d (by (text_at bytes ts) (place end ts)) ts
      → LocalAt end bytes d (λ us. by (text_at bytes us) (place end us) us) ts
  unfolding text_and_place
  by_text d by ts = seen_at end bytes text_and_place text_front 0 d (λ f. by f.0 f.1) ts (omega arith)

  -- a name at the front
  uncalled_at : (ts : Tokens) → LocalAt end bytes 1 (λ us. if is_open (kind (drop 1 us)) then read.no end fault.Function (drop 1 us) else Ok (name_at bytes us, 1)) ts
  uncalled_at ts =
      test_at end bytes is_open 1 1 (λ us. read.no end fault.Function (drop 1 us)) (λ us. Ok (name_at bytes us, 1)) ts (omega arith)
      (λ s. refusal_at end bytes (List ℕ) 1 1 (refused fault.Function) ts (omega arith))
      (λ s. by_name 1 (λ n p us. Ok (n, 1)) ts (value_at end bytes 1 1 (name_at bytes ts) ts (omega arith)))

  name_by : (d : ℕ) (ts : Tokens) → d ≤ 1 → (is_name (kind ts) ≡ false → d ≡ 0) → LocalAt end bytes d (read.name end bytes) ts
  unfolding read.name
  name_by d ts h none =
      test_at end bytes is_name 0 d (λ us. if is_open (kind (drop 1 us)) then read.no end fault.Function (drop 1 us) else Ok (name_at bytes us, 1)) (read.no end fault.Syntax) ts (omega arith)
      (λ s. less_at end bytes d 1 _ ts h (uncalled_at ts))
      (λ s. refusal_at end bytes (List ℕ) d 0 (refused fault.Syntax) ts (omega (arith, none s)))

  pub name_local : Local end bytes 0 (read.name end bytes)
  name_local ts = name_by 0 ts (omega arith) (λ s. refl)

  pub named_at : (ts : Tokens) → is_name (kind ts) ≡ true → LocalAt end bytes 1 (read.name end bytes) ts
  named_at ts is = name_by 1 ts (omega arith) (λ s. absurd cc)

  dotted_by : List ℕ → ℕ → Tokens → Read ColumnName
  dotted_by q p us = plus 2 (followed (drop 2 us) (read.name end bytes (drop 2 us)) (λ n rest. Ok (record { table = Some q; name = n; at = p }, 0)))

  bare_by : List ℕ → ℕ → Tokens → Read ColumnName
  bare_by q p us = followed us (read.name end bytes us) (λ n rest. Ok (record { table = None; name = n; at = p }, 0))

  column_by : (d : ℕ) (ts : Tokens) → d ≤ 2 → (is_name (kind ts) ≡ false → d ≡ 0) → (is_dot (kind (drop 1 ts)) ≡ false → d ≤ 1) → LocalAt end bytes d (read.column end bytes) ts
  unfolding read.column dotted_by bare_by
  column_by d ts h none bare =
      test_at end bytes is_name 0 d (λ us. if is_dot (kind (drop 1 us)) then dotted_by (name_at bytes us) (place end us) us else bare_by (name_at bytes us) (place end us) us)
      (λ us. read.no end (no_operand (kind us) (kind (drop 1 us))) us) ts (omega arith)
      (λ s. if_dotted s (is_dot (kind (drop 1 ts))) refl)
      (λ s. table_at end bytes ColumnName d 0 (λ us. refused (no_operand (kind us) (kind (drop 1 us)))) ts (omega (arith, none s, some_looked (refused (no_operand (kind ts) (kind (drop 1 ts)))) (kind ts)))
      (λ us. operand_table (kind us) (kind (drop 1 us))))
    where
      if_dotted : is_name (kind ts) ≡ true → (b : Bool) → is_dot (kind (drop 1 ts)) ≡ b
          → LocalAt end bytes d (λ us. if is_dot (kind (drop 1 us)) then dotted_by (name_at bytes us) (place end us) us else bare_by (name_at bytes us) (place end us) us) ts
      if_dotted is true e =
          less_at end bytes d 2 _ ts h (test_at end bytes is_dot 1 2 (λ us. dotted_by (name_at bytes us) (place end us) us) (λ us. bare_by (name_at bytes us) (place end us) us) ts (omega arith)
          (λ s. by_name 2 dotted_by ts (behind_at end bytes 2 0 (λ l. followed l (read.name end bytes l) (λ n rest. Ok (record { table = Some (name_at bytes ts); name = n; at = place end ts }, 0))) ts
          (last_at end bytes 0 (read.name end bytes) (λ n. record { table = Some (name_at bytes ts); name = n; at = place end ts }) (drop 2 ts) (name_local (drop 2 ts)))))
          (λ s. absurd cc))
      if_dotted is false e =
          less_at end bytes d 1 _ ts (bare e) (test_at end bytes is_dot 1 1 (λ us. dotted_by (name_at bytes us) (place end us) us) (λ us. bare_by (name_at bytes us) (place end us) us) ts (omega arith)
          (λ s. absurd cc)
          (λ s. by_name 1 bare_by ts (last_at end bytes 1 (read.name end bytes) (λ n. record { table = None; name = n; at = place end ts }) ts (named_at ts is))))

  pub column_local : Local end bytes 0 (read.column end bytes)
  column_local ts = column_by 0 ts (omega arith) (λ s. refl) (λ s. omega arith)

  -- ---- literals and operands

  unsigned_local : (n : ℕ) → Local end bytes 0 (read.unsigned end n)
  unsigned_local n ts = by (nat_lt n (2 ^ 63))
    where
      by : (b : Bool) → LocalAt end bytes 0 (λ us. if b then Ok (value.Int (pos n), 1) else Err (odd NumberRange, place end us)) ts
      by true = value_at end bytes 0 1 (value.Int (pos n)) ts (omega arith)
      by false = refusal_at end bytes Value 0 0 (odd NumberRange) ts (omega arith)

  negative_at : (n : ℕ) (ts : Tokens) → LocalAt end bytes 1 (read.negative end n) ts
  negative_at n ts = by (nat_lt (2 ^ 63) n)
    where
      by : (b : Bool) → LocalAt end bytes 1 (λ us. if b then Err (odd NumberRange, place end (drop 1 us)) else Ok (value.Int (neg_ℤ (pos n)), 2)) ts
      by true = refusal_at end bytes Value 1 1 (odd NumberRange) ts (omega arith)
      by false = value_at end bytes 1 2 (value.Int (neg_ℤ (pos n))) ts (omega arith)

  minus_at : (ts : Tokens) → kind ts ≡ Mark sym.Minus → LocalAt end bytes 0 (λ us. read.negative_by end (kind (drop 1 us)) us) ts
  minus_at ts is = less_at end bytes 0 1 _ ts (omega arith) (seen_at end bytes kind kind_front 1 1 (read.negative_by end) ts (omega arith) (by (kind (drop 1 ts))))
    where
      two : looked (refused fault.Arithmetic) (kind ts) ≡ 2
      two = ap (looked (refused fault.Arithmetic)) is

      by : (k : Kind) → LocalAt end bytes 1 (read.negative_by end k) ts
      by (Number n) = negative_at n ts
      by _ = refusal_at end bytes Value 1 0 (refused fault.Arithmetic) ts (omega (arith, two))

  listed_minus_local : Local end bytes 0 (λ us. read.listed_negative end (kind (drop 1 us)) us)
  listed_minus_local ts = less_at end bytes 0 1 _ ts (omega arith) (seen_at end bytes kind kind_front 1 1 (read.listed_negative end) ts (omega arith) (by (kind (drop 1 ts))))
    where
      by : (k : Kind) → LocalAt end bytes 1 (read.listed_negative end k) ts
      by (Number n) = negative_at n ts
      by _ = refusal_at end bytes Value 1 1 (refused fault.Syntax) ts (omega arith)

  pub operand_local : Local end bytes 0 (read.operand end bytes)
  unfolding read.operand
  operand_local ts = ended_at (λ us. read.operand_by end bytes (kind us) us) ts (seen_at end bytes kind kind_front 0 0 (read.operand_by end bytes) ts (omega arith) (by (kind ts) refl))
    where
      by : (k : Kind) → kind ts ≡ k → LocalAt end bytes 0 (read.operand_by end bytes k) ts
      by (Number n) e = by_place 0 (λ p us. followed us (read.unsigned end n us) (λ v rest. Ok (scalar.Literal v p, 0))) ts (last_at end bytes 0 (read.unsigned end n) (λ v. scalar.Literal v (place end ts)) ts (unsigned_local n ts))
      by Text e = by_text 0 (λ s p us. Ok (scalar.Literal (value.Text s) p, 1)) ts (value_at end bytes 0 1 (scalar.Literal (value.Text (text_at bytes ts)) (place end ts)) ts (omega arith))
      by (Mark sym.Minus) e =
          by_place 0 (λ p us. followed us (read.negative_by end (kind (drop 1 us)) us) (λ v rest. Ok (scalar.Literal v p, 0))) ts
          (last_at end bytes 0 (λ us. read.negative_by end (kind (drop 1 us)) us) (λ v. scalar.Literal v (place end ts)) ts (minus_at ts e))
      by _ e = last_at end bytes 0 (read.column end bytes) (λ c. scalar.Column c) ts (column_local ts)

  pub literal_local : Local end bytes 0 (read.literal end bytes)
  unfolding read.literal
  literal_local ts = seen_at end bytes kind kind_front 0 0 (read.literal_by end bytes) ts (omega arith) (by (kind ts))
    where
      by : (k : Kind) → LocalAt end bytes 0 (read.literal_by end bytes k) ts
      by (Number n) = unsigned_local n ts
      by Text = by_text 0 (λ s p us. Ok (value.Text s, 1)) ts (value_at end bytes 0 1 (value.Text (text_at bytes ts)) ts (omega arith))
      by (Mark sym.Minus) = listed_minus_local ts
      by k = refusal_at end bytes Value 0 0 (refused (no_literal k)) ts (omega (arith, some_looked (refused (no_literal k)) (kind ts)))

  -- ---- aliases and items

  placed_name : Tokens → Read (Option (List ℕ × ℕ))
  placed_name us = followed us (read.name end bytes us) (λ n rest. Ok (Some (n, place end us), 0))

  placed_name_local : Local end bytes 0 placed_name
  unfolding placed_name
  placed_name_local ts =
      by_place 0 (λ p us. followed us (read.name end bytes us) (λ n rest. Ok (Some (n, p), 0))) ts (last_at end bytes 0 (read.name end bytes) (λ n. Some (n, place end ts)) ts (name_local ts))

  pub alias_local : Local end bytes 0 (read.alias end bytes)
  unfolding read.alias placed_name
  alias_local ts =
      test_at end bytes is_as 0 0 (λ us. plus 1 (placed_name (drop 1 us))) (λ us. if is_name (kind us) then placed_name us else Ok (None, 0)) ts (omega arith)
      (λ s. next_at end bytes placed_name ts (placed_name_local (drop 1 ts)))
      (λ s. test_at end bytes is_name 0 0 placed_name (λ us. Ok (None, 0)) ts (omega arith) (λ s. placed_name_local ts) (λ s. value_at end bytes 0 0 None ts (omega arith)))

  -- a column and its alias, or no item
  column_item : Tokens → Read Item
  column_item us =
      if is_name (kind us) then followed us (read.column end bytes us) (λ c rest. followed rest (read.alias end bytes rest) (λ a r. Ok (items.Column c (name_only a), 0)))
      else read.no end (no_item (kind us) (kind (drop 1 us))) us

  column_item_by : (d : ℕ) (ts : Tokens) → d ≤ 2 → (is_name (kind ts) ≡ false → d ≡ 0) → (is_dot (kind (drop 1 ts)) ≡ false → d ≤ 1) → LocalAt end bytes d column_item ts
  unfolding column_item
  column_item_by d ts h none bare =
      test_at end bytes is_name 0 d (λ us. followed us (read.column end bytes us) (λ c rest. followed rest (read.alias end bytes rest) (λ a r. Ok (items.Column c (name_only a), 0))))
      (λ us. read.no end (no_item (kind us) (kind (drop 1 us))) us) ts (omega arith)
      (λ s. then_at end bytes d (read.column end bytes) _ ts (column_by d ts h none bare) (λ c m e. last_at end bytes 0 (read.alias end bytes) (λ a. items.Column c (name_only a)) (drop m ts) (alias_local (drop m ts))))
      (λ s. table_at end bytes Item d 0 (λ us. refused (no_item (kind us) (kind (drop 1 us)))) ts (omega (arith, none s, some_looked (refused (no_item (kind ts) (kind (drop 1 ts)))) (kind ts)))
      (λ us. item_table (kind us) (kind (drop 1 us))))

  -- what begins as `name . *`
  all_or_column : Tokens → Read Item
  all_or_column us = if is_name (kind us) && is_dot (kind (drop 1 us)) && is_star (kind (drop 2 us)) then Ok (items.AllOf (name_at bytes us) (place end us), 3) else column_item us

  all_or_column_local : Local end bytes 0 all_or_column
  unfolding all_or_column
  all_or_column_local ts = by (is_name (kind ts)) refl (is_dot (kind (drop 1 ts))) refl
    where
      by : (b : Bool) → is_name (kind ts) ≡ b → (c : Bool) → is_dot (kind (drop 1 ts)) ≡ c → LocalAt end bytes 0 all_or_column ts
      by false e c f =
          as_at end bytes 0 all_or_column column_item ts
          (λ us a. ap (λ b. if b && is_dot (kind (drop 1 us)) && is_star (kind (drop 2 us)) then Ok (items.AllOf (name_at bytes us) (place end us), 3) else column_item us) (ap is_name (agree_front kind kind_front 0 0 us ts (omega arith) a) ∙ e))
          (column_item_by 0 ts (omega arith) (λ s. refl) (λ s. omega arith))
      by true e false f =
          less_at end bytes 0 1 all_or_column ts (omega arith) (as_at end bytes 1 all_or_column column_item ts
          (λ us a. (λ i. if (ap is_name (agree_front kind kind_front 0 1 us ts (omega arith) a) ∙ e) i && (ap is_dot (agree_front kind kind_front 1 1 us ts (omega arith) a) ∙ f) i && is_star (kind (drop 2 us)) then Ok (items.AllOf (name_at bytes us) (place end us), 3) else column_item us))
          (column_item_by 1 ts (omega arith) (λ s. absurd cc) (λ s. omega arith)))
      by true e true f =
          less_at end bytes 0 2 all_or_column ts (omega arith) (as_at end bytes 2 all_or_column (λ us. if is_star (kind (drop 2 us)) then Ok (items.AllOf (name_at bytes us) (place end us), 3) else column_item us) ts
          (λ us a. (λ i. if (ap is_name (agree_front kind kind_front 0 2 us ts (omega arith) a) ∙ e) i && (ap is_dot (agree_front kind kind_front 1 2 us ts (omega arith) a) ∙ f) i && is_star (kind (drop 2 us)) then Ok (items.AllOf (name_at bytes us) (place end us), 3) else column_item us))
          (test_at end bytes is_star 2 2 (λ us. Ok (items.AllOf (name_at bytes us) (place end us), 3)) column_item ts (omega arith)
          (λ s. by_name 2 (λ n p us. Ok (items.AllOf n p, 3)) ts (value_at end bytes 2 3 (items.AllOf (name_at bytes ts) (place end ts)) ts (omega arith)))
          (λ s. column_item_by 2 ts (omega arith) (λ s. absurd cc) (λ s. absurd cc))))

  pub item_local : Local end bytes 0 (read.item end bytes)
  unfolding read.item read.item_front all_or_column column_item
  item_local ts =
      ended_at (read.item_front end bytes) ts
      (test_at end bytes is_star 0 0 (λ us. Ok (items.Star (place end us), 1)) all_or_column ts (omega arith)
      (λ s. by_place 0 (λ p us. Ok (items.Star p, 1)) ts (value_at end bytes 0 1 (items.Star (place end ts)) ts (omega arith)))
      (λ s. all_or_column_local ts))
