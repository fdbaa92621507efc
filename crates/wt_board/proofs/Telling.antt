-- The rules that a log tells.
use Rattle.std.proofs.Common.{◌≡◌, ℕ, ◌+◌, ◌<◌, ◌≤◌, inl, inr, refl, sym, ap, ◌∙◌, subst, List, [], ◌∷◌, ◌++◌, length, take, get_or, map, append_assoc, append-nil}
use Rattle.std.specs.Prelude.{Some, slice_get}
use Rattle.wt_bag.specs.Choices.{Has}
use Rattle.wt_bag.proofs.HasLaws.{has_left, has_right, has_split}
use Rattle.wt_symbol.specs.Sides.{PairTree}
use Rattle.wt_symbol.specs.Lawful.{IsLawful}
use Rattle.wt_constraint.specs.declared.set.AtomSet.{AtomSet}
use Rattle.wt_constraint.proofs.AtomLemmas.{few}
use Rattle.wt_form.specs.Relaxed.{AreRules}
use Rattle.wt_cores.specs.Cores.{missing, all_atoms}
use Rattle.wt_cores.specs.SetLists.{Ascending, Gains}
use Rattle.wt_board.specs.declared.words.Entry.{Entry}
use Rattle.wt_board.specs.Lots.{LotTree}
use Rattle.wt_board.specs.Knowledge.{cores_of}
use Rattle.wt_board.specs.Machine.{LogStands, Settles}
use Rattle.wt_board.specs.Rules.{AreRulesOf}
use Rattle.wt_board.specs.Telling.{AreNear, AddsRules}
use Rattle.wt_board.proofs.Findings.{cores_append}
use Rattle.wt_board.proofs.Held.{taken_more}
use Rattle.wt_board.proofs.Settling.{rule_is_logged}

-- one entry more
pub near_more : (all : AtomSet) (depth p : ℕ) (log : List Entry) (k : ℕ) (e d : Entry) (old new : List AtomSet) → k < length log → e ≡ get_or log k d → AreNear all depth (cores_of p (take k log)) old
    → Gains old new (λ s. Has s (cores_of p (e ∷ [])) × (missing 64 all s ≤ depth)) → Ascending new → AreNear all depth (cores_of p (take (k + 1) log)) new
near_more all depth p log k e d old new l is h gains up = subst (λ cs. AreNear all depth cs new) (sym (ap (cores_of p) (taken_more log k e d l is) ∙ cores_append p (take k log) (e ∷ []))) (record {
  members = λ s. (
    λ m. elim ((gains s).0 m) [
      | inl was ↦ let q = (h.members s).0 was in (has_left s (cores_of p (take k log)) (cores_of p (e ∷ [])) q.0, q.1)
      | inr q ↦ (has_right s (cores_of p (take k log)) (cores_of p (e ∷ [])) q.0, q.1)
    ],
    λ q. elim (has_split s (cores_of p (take k log)) (cores_of p (e ∷ [])) q.0) [
      | inl was ↦ (gains s).1 (inl ((h.members s).1 (was, q.1)))
      | inr m ↦ (gains s).1 (inr (m, q.1))
    ],
  );
  ascending = up;
})

-- the rules of one pair more
pub rules_of_more : (steps depth : ℕ) (ps : List PairTree) (pair : PairTree) (sets : List AtomSet) (rules : List (PairTree × AtomSet)) → AreRulesOf steps depth ps rules → AreRules pair steps depth sets
    → AreRulesOf steps depth (ps ++ pair ∷ []) (rules ++ map (λ s. (pair, s)) sets)
rules_of_more steps depth [] pair sets rules h are = (sets, [], are, refl, ap (λ rs. rs ++ map (λ s. (pair, s)) sets) h ∙ sym (append-nil (map (λ s. (pair, s)) sets)))
rules_of_more steps depth (p ∷ ps) pair sets rules h are =
    (h.0, h.1 ++ map (λ s. (pair, s)) sets, h.2, rules_of_more steps depth ps pair sets h.1 h.3 are, ap (λ rs. rs ++ map (λ s. (pair, s)) sets) h.4 ∙ append_assoc (map (λ s. (p, s)) h.0) h.1 (map (λ s. (pair, s)) sets))

pub near_are_rules : (lot : LotTree) (log : List Entry) → LogStands lot log → Settles lot log → (p : ℕ) (pair : PairTree) → slice_get lot.pairs p ≡ Some pair → IsLawful pair → (sets : List AtomSet)
    → AreNear (all_atoms pair) lot.bounds.depth (cores_of p log) sets → AreRules pair lot.bounds.steps lot.bounds.depth sets
near_are_rules lot log stands settles p pair at lawful sets h = record {
  members = λ s. let k = rule_is_logged lot log stands settles p pair at (few pair lawful) s in (λ m. k.1 ((h.members s).0 m), λ r. (h.members s).1 (k.0 r));
  ascending = h.ascending;
}

pub rules_more : (lot : LotTree) (log : List Entry) → LogStands lot log → Settles lot log → (p : ℕ) (pair : PairTree) → slice_get lot.pairs p ≡ Some pair → IsLawful pair → (old new : List (PairTree × AtomSet))
    → AddsRules lot.bounds.depth (cores_of p log) pair old new → AreRulesOf lot.bounds.steps lot.bounds.depth (take p lot.pairs) old → AreRulesOf lot.bounds.steps lot.bounds.depth (take p lot.pairs ++ pair ∷ []) new
rules_more lot log stands settles p pair at lawful old new adds h =
    subst (AreRulesOf lot.bounds.steps lot.bounds.depth (take p lot.pairs ++ pair ∷ [])) (sym adds.2)
    (rules_of_more lot.bounds.steps lot.bounds.depth (take p lot.pairs) pair adds.0 old h (near_are_rules lot log stands settles p pair at lawful adds.0 adds.1))
