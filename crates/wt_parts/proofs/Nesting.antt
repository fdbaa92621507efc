-- What stands one level deeper, where there is a level left and where there is none.
use Rattle.std.proofs.Common.{◌≡◌, ◌≢◌, ℕ, suc, zero, ◌-◌, List, refl, ap, arith, Ok, Err, drop, true, false}
use Rattle.wt_grammar.specs.declared.fault.QueryFault.TheVariants.{TooDeep}
use Rattle.wt_ast.specs.Tree.{negated}
use Rattle.wt_reading.specs.Lexemes.{Tokens, place}
use Rattle.wt_grammar.specs.Refusals.{syntax, no_join}
use Rattle.wt_reading.specs.Readings.{followed, plus, within}
use Rattle.wt_grammar.specs.Reading.{refused, refusal, nest, neg, cond, joined, body, no_query_end}

module _ (end : ℕ) (bytes : List ℕ) where
  pub no_room : (l : ℕ) → l ≡ 0 → (nest end bytes l).room ≡ false
  unfolding nest
  no_room zero h = refl
  no_room (suc l) h = absurd (omega arith)

  pub has_room : (l : ℕ) → l ≢ 0 → (nest end bytes l).room ≡ true
  unfolding nest
  has_room zero h = absurd (h refl)
  has_room (suc l) h = refl

  pub negs_deep : (l : ℕ) (ts : Tokens) → l ≡ 0 → (nest end bytes l).negs ts ≡ Err (refused TooDeep, place end ts)
  unfolding nest
  negs_deep zero ts h = refl
  negs_deep (suc l) ts h = absurd (omega arith)

  pub negs_under : (l : ℕ) (ts : Tokens) → l ≢ 0
      → (nest end bytes l).negs ts ≡ plus 1 (followed (drop 1 ts) (neg end bytes (nest end bytes (l - 1)) (drop 1 ts)) (λ c rest. Ok (negated (place end ts) c, 0)))
  unfolding nest
  negs_under zero ts h = absurd (h refl)
  negs_under (suc l) ts h =
      let e : l ≡ suc l - 1 = omega arith in
      ap (λ k. plus 1 (followed (drop 1 ts) (neg end bytes (nest end bytes k) (drop 1 ts)) (λ c rest. Ok (negated (place end ts) c, 0)))) e

  pub conds_deep : (l : ℕ) (ts : Tokens) → l ≡ 0 → (nest end bytes l).conds ts ≡ Err (refused TooDeep, place end ts)
  unfolding nest
  conds_deep zero ts h = refl
  conds_deep (suc l) ts h = absurd (omega arith)

  pub conds_under : (l : ℕ) (ts : Tokens) → l ≢ 0 → (nest end bytes l).conds ts ≡ within (cond end bytes (nest end bytes (l - 1))) (λ _. refusal end syntax) ts
  unfolding nest
  conds_under zero ts h = absurd (h refl)
  conds_under (suc l) ts h = let e : l ≡ suc l - 1 = omega arith in ap (λ k. within (cond end bytes (nest end bytes k)) (λ _. refusal end syntax) ts) e

  pub queries_deep : (l : ℕ) (ts : Tokens) → l ≡ 0 → (nest end bytes l).queries ts ≡ Err (refused TooDeep, place end ts)
  unfolding nest
  queries_deep zero ts h = refl
  queries_deep (suc l) ts h = absurd (omega arith)

  pub queries_under : (l : ℕ) (ts : Tokens) → l ≢ 0
      → (nest end bytes l).queries ts ≡ within (λ ts. plus 1 (body end bytes (nest end bytes (l - 1)) (drop 1 ts))) (λ q. refusal end (no_query_end q)) ts
  unfolding nest
  queries_under zero ts h = absurd (h refl)
  queries_under (suc l) ts h =
      let e : l ≡ suc l - 1 = omega arith in ap (λ k. within (λ ts. plus 1 (body end bytes (nest end bytes k) (drop 1 ts))) (λ q. refusal end (no_query_end q)) ts) e

  pub froms_deep : (l : ℕ) (ts : Tokens) → l ≡ 0 → (nest end bytes l).froms ts ≡ Err (refused TooDeep, place end ts)
  unfolding nest
  froms_deep zero ts h = refl
  froms_deep (suc l) ts h = absurd (omega arith)

  pub froms_under : (l : ℕ) (ts : Tokens) → l ≢ 0 → (nest end bytes l).froms ts ≡ within (joined end bytes (nest end bytes (l - 1)) true) (λ _. refusal end (no_join true)) ts
  unfolding nest
  froms_under zero ts h = absurd (h refl)
  froms_under (suc l) ts h = let e : l ≡ suc l - 1 = omega arith in ap (λ k. within (joined end bytes (nest end bytes k) true) (λ _. refusal end (no_join true)) ts) e

pub ruleset rooms = (no_room, has_room)

pub ruleset openings = (no_room, has_room, negs_deep, negs_under, conds_deep, conds_under, queries_deep, queries_under, froms_deep, froms_under)
