-- With the tokens that show a refusal of a statement no sentence goes on.
use Rattle.std.proofs.Common.{◌≡◌, ℕ, ◌+◌, ◌-◌, ◌≤◌, ◌⊎◌, inl, inr, Bool, true, false, List, [], ◌∷◌, ◌++◌, length, take, drop, refl, ap, sym, ◌∙◌, arith, Ok, Err, subst, suc, zero, take-append-drop}
use Rattle.std.specs.Prelude.{if◌then◌else◌}
use Rattle.wt_ast.specs.Tree.{QueryTree}
use Rattle.wt_grammar.specs.declared.fault.QueryFault.TheVariants as fault
use Rattle.wt_reading.specs.Lexemes.{Tokens, kind, is_end}
use Rattle.wt_grammar.specs.Kinds.{is_select}
use Rattle.wt_grammar.specs.Refusals.{no_statement}
use Rattle.wt_grammar.specs.Reading as read
use Rattle.wt_reading.specs.Readings.{plus, followed}
use Rattle.wt_grammar.specs.Reading.{Read, Refusal, refused, odd, no_query_end}
use Rattle.wt_sentence.proofs.Complete.{statement_with, complete_with}
use Rattle.wt_viable.specs.Sentences.{IsSentence, Parts}
use Rattle.wt_refusal.specs.Refused.{looked, Speaks, Ends}
use Rattle.wt_viable.proofs.Levels.{IsTooDeep, more_levels}
use Rattle.wt_refusal.proofs.Local.{Agree, too_deep, refuses, some_looked, LocalAt, Local, Gives, Refuses, value_at, test_at, next_at, then_at}
use Rattle.wt_refusal.proofs.LocalParts.{by_kind}
use Rattle.wt_refusal.proofs.LocalQueries.{local_below, body_local}

-- what stands before the k-th token and goes on as the tokens do
agree_before : (k n : ℕ) (next ts : Tokens) → 1 ≤ n → Agree n next (drop k ts) → Agree (k + n) (take k ts ++ next) ts
agree_before zero n next ts h e = let size : 0 + n ≡ n = omega arith in subst (λ m. Agree m next ts) (sym size) e
agree_before (suc k) zero next [] h e = absurd (omega (arith, h))
agree_before (suc k) (suc n) [] [] h e = refl
agree_before (suc k) (suc n) (u ∷ next) [] h e = absurd cc
agree_before (suc k) n next (t ∷ ts) h e =
    let size : suc k + n ≡ suc (k + n) = omega arith in
    subst (λ m. Agree m (t ∷ (take k ts ++ next)) (t ∷ ts)) (sym size) (ap (λ l. t ∷ l) (agree_before k n next ts h e))

module _ (end : ℕ) (bytes : List ℕ) where
  -- where a statement has to end
  ends_here : QueryTree → Tokens → Read QueryTree
  ends_here q rest = if is_end (kind rest) then Ok (q, 0) else read.no end (no_query_end q (kind rest)) rest

  statement_local : (levels : ℕ) → Local end bytes 0 (statement_with end bytes levels)
  unfolding ends_here
  statement_local levels ts =
      let body = read.body end bytes (read.nest end bytes levels) in
      test_at end bytes is_select 0 0 (λ us. plus 1 (followed (drop 1 us) (body (drop 1 us)) ends_here)) (λ us. read.no end (no_statement (kind us)) us) ts (omega arith)
      (λ s. next_at end bytes (λ l. followed l (body l) ends_here) ts
      (then_at end bytes 0 body ends_here (drop 1 ts) (body_local end bytes (read.nest end bytes levels) (local_below end bytes levels) (drop 1 ts)) (λ q m e.
      test_at end bytes is_end 0 0 (λ r. Ok (q, 0)) (λ r. read.no end (no_query_end q (kind r)) r) (drop m (drop 1 ts)) (omega arith) (λ s. value_at end bytes 0 0 q (drop m (drop 1 ts)) (omega arith))
      (λ s. by_kind end bytes QueryTree (no_query_end q) (drop m (drop 1 ts))))))
      (λ s. by_kind end bytes QueryTree no_statement ts)

  -- a sentence is read with as many levels as it has, and with more
  read_with_more : (levels k : ℕ) (q : QueryTree) (ts : Tokens) → IsSentence end bytes levels q ts → statement_with end bytes (levels + k) ts ≡ Ok (q, length ts)
  read_with_more levels k q ts p = by (more_levels end bytes levels k ts)
    where
      by : IsTooDeep (statement_with end bytes levels ts) ⊎ (statement_with end bytes (levels + k) ts ≡ statement_with end bytes levels ts) → statement_with end bytes (levels + k) ts ≡ Ok (q, length ts)
      by (inl (at, e)) = let z = sym (complete_with end bytes levels q ts p) ∙ e in absurd cc
      by (inr e) = e ∙ complete_with end bytes levels q ts p

  -- what is refused with 32 levels, and not for want of one, is no sentence
  refused_at_all : (levels : ℕ) (q : QueryTree) (ts : Tokens) → refuses false (statement_with end bytes 32 ts) ≡ true → IsSentence end bytes levels q ts → ⊥
  refused_at_all levels q ts h p = by (more_levels end bytes 32 levels ts)
    where
      both : levels + 32 ≡ 32 + levels
      both = omega arith

      by : IsTooDeep (statement_with end bytes 32 ts) ⊎ (statement_with end bytes (32 + levels) ts ≡ statement_with end bytes 32 ts) → ⊥
      by (inl (at, e)) = let z = ap (refuses false) (sym e) ∙ h in cc
      by (inr e) = let z = ap (refuses false) (sym (read_with_more levels 32 q ts p) ∙ ap (λ n. statement_with end bytes n ts) both ∙ e) ∙ h in cc

  -- what is refused with 32 levels is no sentence of so many levels
  refused_within : (levels : ℕ) (q : QueryTree) (ts : Tokens) (deep : Bool) → levels ≤ 32 → refuses deep (statement_with end bytes 32 ts) ≡ true → IsSentence end bytes levels q ts → ⊥
  refused_within levels q ts deep few h p =
      let both : levels + (32 - levels) ≡ 32 = omega (arith, few) in
      let z = ap (refuses deep) (sym (read_with_more levels (32 - levels) q ts p) ∙ ap (λ n. statement_with end bytes n ts) both) ∙ h in
      cc

  none_goes_on : (why : Refusal) (levels : ℕ) (q : QueryTree) (ts : Tokens) → Speaks why levels → refuses (too_deep why) (statement_with end bytes 32 ts) ≡ true → IsSentence end bytes levels q ts → ⊥
  none_goes_on (refused fault.TooDeep) levels q ts speaks h p = refused_within levels q ts true speaks h p
  none_goes_on (refused _) levels q ts speaks h p = refused_at_all levels q ts h p
  none_goes_on (odd f) levels q ts speaks h p = refused_at_all levels q ts h p

  -- A refusal of a statement stands at tokens with which no sentence goes on.
  pub refusal_ends : (ts : Tokens) (why : Refusal) (at : ℕ) → read.statement end bytes ts ≡ Err (why, at) → Parts end bytes (Ends end bytes why) ts at
  unfolding read.statement LocalAt
  refusal_ends ts why at h =
      let (k, p, shown) = subst (Gives end bytes 0 (statement_with end bytes 32) ts) h (statement_local 32 ts) in
      (take k ts, drop k ts, sym (take-append-drop k ts), p, by k shown)
    where
      by : (k : ℕ) → Refuses end bytes 0 (statement_with end bytes 32) ts why k (drop k ts) → Ends end bytes why (take k ts) (drop k ts)
      by k (inr r) = inr r
      by k (inl (l, fails)) = inl (λ levels q next speaks same p.
          none_goes_on why levels q (take k ts ++ next) speaks (fails (take k ts ++ next) (agree_before k (looked why (kind (drop k ts))) next ts (some_looked why (kind (drop k ts))) same)) p)
