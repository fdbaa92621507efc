-- The rules and the logs of the boards, put together.
use Rattle.std.proofs.Common.{◌≡◌, ℕ, ◌+◌, ◌<◌, inl, inr, Bool, true, refl, sym, ap, ◌∙◌, subst, arith, eq-eqb, List, [], ◌∷◌, ◌++◌, length, take, map, append-nil}
use Rattle.wt_pair.specs.declared.lot.Lot.{Lot}
use Rattle.std.specs.Prelude.{sum, Some, ◌==◌, ◌||◌, slice_get}
use Rattle.std.proofs.lemmas.Bool.{cases_eq}
use Rattle.std.proofs.lemmas.List.{map-append, take_all, length-map}
use Rattle.std.proofs.lemmas.List.Folds.{list_any-append}
use Rattle.wt_bag.specs.Bags.{Each}
use Rattle.wt_bag.proofs.EachLaws.{each_append}
use Rattle.wt_symbol.specs.Sides.{PairTree, pair_of}
use Rattle.wt_constraint.specs.declared.set.AtomSet.{AtomSet}
use Rattle.wt_cores.specs.Cores.{Within, all_atoms}
use Rattle.wt_form.specs.Relaxed.{AreRules}
use Rattle.wt_rule.specs.declared.Rule.{Rule}
use Rattle.wt_board.specs.declared.words.Entry.{Entry}
use Rattle.wt_board.specs.Lots.{LotTree, lot_tree}
use Rattle.wt_board.specs.Knowledge.{core_before, refused_before, cores_of, refused_of, lies_in, has_core, is_refused, is_known}
use Rattle.wt_board.specs.Machine.{LogStands, VerdictStands, IsTrueOf, Settles}
use Rattle.wt_board.specs.Rules.{AreRulesOf, AreLotRules, rule_of}
use Rattle.wt_board.proofs.Sets.{or_true, or_left, or_right, some_same}
use Rattle.wt_board.proofs.Findings.{cores_append, refused_append}
use Rattle.wt_board.proofs.Held.{pair_below}
use Rattle.wt_board.proofs.Telling.{rules_of_more}
use Rattle.wt_workers.specs.Renumbering.{renumber}
use Rattle.wt_workers.specs.Reports.{AreOfFirst, Reported}
use Rattle.wt_workers.proofs.Tasks.{only_first}

-- ---- a log under another number

-- each entry is of the first pair
abbrev OfFirst : Entry → Type 0
OfFirst e = e.pair ≡ 0

renumbered_cores : (k : ℕ) (es : List Entry) → Each OfFirst es → cores_of k (map (renumber k) es) ≡ cores_of 0 es
renumbered_cores k [] h = refl
renumbered_cores k (e ∷ es) h =
    ap (λ (b : Bool). core_before b e.verdict (cores_of k (map (renumber k) es))) (eq-eqb k k refl ∙ sym (eq-eqb e.pair 0 h.0)) ∙ ap (core_before (e.pair == 0) e.verdict) (renumbered_cores k es h.1)

renumbered_refused : (k : ℕ) (es : List Entry) → Each OfFirst es → refused_of k (map (renumber k) es) ≡ refused_of 0 es
renumbered_refused k [] h = refl
renumbered_refused k (e ∷ es) h =
    ap (λ (b : Bool). refused_before b e.verdict (refused_of k (map (renumber k) es))) (eq-eqb k k refl ∙ sym (eq-eqb e.pair 0 h.0)) ∙ ap (refused_before (e.pair == 0) e.verdict) (renumbered_refused k es h.1)

renumbered_known : (k : ℕ) (es : List Entry) (s : AtomSet) → Each OfFirst es → is_known 0 es s ≡ true → is_known k (map (renumber k) es) s ≡ true
renumbered_known k es s h e =
    let P : List AtomSet × List AtomSet → Type 0 = λ q. (has_core q.0 s || is_refused q.1 s) ≡ true in
    subst P (λ i. (sym (renumbered_cores k es h) i, sym (renumbered_refused k es h) i)) e

known_later : (p : ℕ) (xs ys : List Entry) (s : AtomSet) → is_known p ys s ≡ true → is_known p (xs ++ ys) s ≡ true
known_later p xs ys s h = elim (or_true (has_core (cores_of p ys) s) (is_refused (refused_of p ys) s) h) [
  | inl k ↦ or_left (has_core (cores_of p (xs ++ ys)) s) (is_refused (refused_of p (xs ++ ys)) s)
      (ap (λ cs. has_core cs s) (cores_append p xs ys) ∙ list_any-append (λ c. lies_in c s) (cores_of p xs) (cores_of p ys) ∙ or_right (has_core (cores_of p xs) s) (has_core (cores_of p ys) s) k)
  | inr k ↦ or_right (has_core (cores_of p (xs ++ ys)) s) (is_refused (refused_of p (xs ++ ys)) s)
      (ap (λ rs. is_refused rs s) (refused_append p xs ys) ∙ list_any-append (λ r. lies_in s r) (refused_of p xs) (refused_of p ys) ∙ or_right (is_refused (refused_of p xs) s) (is_refused (refused_of p ys) s) k)
]

known_first : (p : ℕ) (xs ys : List Entry) (s : AtomSet) → is_known p xs s ≡ true → is_known p (xs ++ ys) s ≡ true
known_first p xs ys s h = elim (or_true (has_core (cores_of p xs) s) (is_refused (refused_of p xs) s) h) [
  | inl k ↦ or_left (has_core (cores_of p (xs ++ ys)) s) (is_refused (refused_of p (xs ++ ys)) s)
      (ap (λ cs. has_core cs s) (cores_append p xs ys) ∙ list_any-append (λ c. lies_in c s) (cores_of p xs) (cores_of p ys) ∙ or_left (has_core (cores_of p xs) s) (has_core (cores_of p ys) s) k)
  | inr k ↦ or_right (has_core (cores_of p (xs ++ ys)) s) (is_refused (refused_of p (xs ++ ys)) s)
      (ap (λ rs. is_refused rs s) (refused_append p xs ys) ∙ list_any-append (λ r. lies_in s r) (refused_of p xs) (refused_of p ys) ∙ or_left (is_refused (refused_of p xs) s) (is_refused (refused_of p ys) s) k)
]

-- ---- one board more

module _ (lot one : LotTree) (k : ℕ) (pair : PairTree) (at : slice_get lot.pairs k ≡ Some pair) (pairs : one.pairs ≡ pair ∷ []) (steps : one.bounds.steps ≡ lot.bounds.steps) (depth : one.bounds.depth ≡ lot.bounds.depth) where
  of_first : (es : List Entry) → LogStands one es → Each OfFirst es
  of_first [] h = tt
  of_first (e ∷ es) h = (only_first one.pairs e.pair h.0.pair (ap length pairs) h.0.at, of_first es h.1)

  moved : (e : Entry) → VerdictStands one e.pair e.set e.verdict → VerdictStands lot k e.set e.verdict
  moved e h =
      let first = only_first one.pairs e.pair h.pair (ap length pairs) h.at in
      let same : h.pair ≡ pair = some_same h.pair pair (sym h.at ∙ (λ i. slice_get (pairs i) (first i))) in
      record {
        pair = pair;
        at = at;
        within = subst (λ x. Within e.set (all_atoms x)) same h.within;
        true_of = let P : PairTree × ℕ → Type 0 = λ q. IsTrueOf q.0 q.1 e.set e.verdict in subst P (λ i. (same i, steps i)) h.true_of;
      }

  moved_all : (es : List Entry) → LogStands one es → LogStands lot (map (renumber k) es)
  moved_all [] h = tt
  moved_all (e ∷ es) h = (moved e h.0, moved_all es h.1)

  pub told_more : (old new : List Rule) (more : List Rule) (log next es : List Entry) → AreOfFirst lot k old log → new ≡ old ++ more → next ≡ log ++ map (renumber k) es → AreLotRules one more → LogStands one es → Settles one es
      → take (k + 1) lot.pairs ≡ take k lot.pairs ++ pair ∷ [] → AreOfFirst lot (k + 1) new next
  told_more old new more log next es h rules_is log_is are stands settles longer = record {
    rules = rules;
    stands = subst (LogStands lot) (sym log_is) (each_append (λ (e : Entry). VerdictStands lot e.pair e.set e.verdict) log (map (renumber k) es) h.stands (moved_all es stands));
    settles = λ p q l there s within. subst (λ x. is_known p x s ≡ true) (sym log_is) (known p q l there s within);
  }
    where
      one_pair : (steps depth : ℕ) (rs : List (PairTree × AtomSet)) → AreRulesOf steps depth (pair ∷ []) rs → (sets : List AtomSet) × AreRules pair steps depth sets × (rs ≡ map (λ s. (pair, s)) sets)
      one_pair steps depth rs a = (a.0, a.2, a.4 ∙ ap (λ r. map (λ s. (pair, s)) a.0 ++ r) a.3 ∙ append-nil (map (λ s. (pair, s)) a.0))

      rules : AreRulesOf lot.bounds.steps lot.bounds.depth (take (k + 1) lot.pairs) (map rule_of new)
      rules =
          let P : ℕ × ℕ × List PairTree → Type 0 = λ q. AreRulesOf q.0 q.1 q.2 (map rule_of more) in
          let a = one_pair lot.bounds.steps lot.bounds.depth (map rule_of more) (subst P (λ i. (steps i, depth i, pairs i)) are) in
          let both : map rule_of new ≡ map rule_of old ++ map (λ s. (pair, s)) a.0 = ap (map rule_of) rules_is ∙ map-append rule_of old more ∙ ap (λ r. map rule_of old ++ r) a.2 in
          let Q : List PairTree × List (PairTree × AtomSet) → Type 0 = λ q. AreRulesOf lot.bounds.steps lot.bounds.depth q.0 q.1 in
          subst Q (λ i. (sym longer i, sym both i)) (rules_of_more lot.bounds.steps lot.bounds.depth (take k lot.pairs) pair a.0 (map rule_of old) h.rules a.1)

      known : (p : ℕ) (q : PairTree) → p < k + 1 → slice_get lot.pairs p ≡ Some q → (s : AtomSet) → Within s (all_atoms q) → is_known p (log ++ map (renumber k) es) s ≡ true
      known p q l there s within = elim (cases_eq p k) [
        | inl e ↦
            let same : q ≡ pair = some_same q pair (sym there ∙ ap (slice_get lot.pairs) e ∙ at) in
            let here : is_known 0 es s ≡ true = settles 0 pair (ap (λ ps. slice_get ps 0) pairs) s (subst (λ x. Within s (all_atoms x)) same within) in
            subst (λ m. is_known m (log ++ map (renumber k) es) s ≡ true) (sym e) (known_later k log (map (renumber k) es) s (renumbered_known k es s (of_first es stands) here))
        | inr ne ↦ known_first p log (map (renumber k) es) s (h.settles p q (omega (arith, l, ne)) there s within)
      ]

-- the rules and the log of all pairs
pub reported : (lot : Lot) (workers : ℕ) (rules : List Rule) (log : List Entry) (posted : List ℕ) (logged drained : ℕ) → AreOfFirst (lot_tree lot) (length lot.pairs) rules log → logged ≡ length log → length posted ≡ workers
    → logged ≡ sum posted + drained → Reported (lot_tree lot) workers (record { rules = rules; log = log; posted = posted; logged = logged; drained = drained })
reported lot workers rules log posted logged drained h number many adds = record {
  rules = subst (λ ps. AreRulesOf lot.bounds.steps lot.bounds.depth ps (map rule_of rules)) (take_all (length lot.pairs) (map pair_of lot.pairs) (omega (arith, length-map lot.pairs pair_of))) h.rules;
  stands = h.stands;
  settles = λ p pair at s within. h.settles p pair (let l = pair_below (map pair_of lot.pairs) p pair at in omega (arith, l, length-map lot.pairs pair_of)) at s within;
  logged = number;
  posted = many;
  adds_up = adds;
}
