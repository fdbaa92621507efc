-- A log that settles a lot tells the rules of its pairs.
use Rattle.std.proofs.Common.{◌≡◌, ℕ, ◌≤◌, ◌↔◌, inl, inr, Bool, true, false, refl, sym, ap, subst, List, length}
use Rattle.std.specs.Prelude.{Some, slice_get}
use Rattle.wt_bag.specs.Choices.{Has}
use Rattle.wt_symbol.specs.Sides.{PairTree}
use Rattle.wt_constraint.specs.declared.set.AtomSet.{AtomSet}
use Rattle.wt_constraint.specs.Atoms.{atoms_of_pair}
use Rattle.wt_form.specs.Relaxed.{LeavesOut, IsRule}
use Rattle.wt_cores.specs.Cores.{Within, missing, IsCore, all_atoms}
use Rattle.wt_cores.proofs.CoreLaws.{monotone, core_within, rules_are_cores}
use Rattle.wt_board.specs.declared.words.Entry.{Entry}
use Rattle.wt_board.specs.Lots.{LotTree}
use Rattle.wt_board.specs.Knowledge.{cores_of, refused_of, has_core, is_refused, is_known}
use Rattle.wt_board.specs.Machine.{State, LogStands, Settled, Settles, is_out}
use Rattle.wt_board.specs.Rules.{TellsRule}
use Rattle.wt_board.proofs.Sets.{or_true}
use Rattle.wt_board.proofs.Findings.{logged_core, known_proved, known_refused}

module _ (lot : LotTree) (log : List Entry) (stands : LogStands lot log) (settles : Settles lot log) (p : ℕ) (pair : PairTree) (at : slice_get lot.pairs p ≡ Some pair) where
  -- each core was logged
  core_was_logged : (m : AtomSet) → IsCore pair lot.bounds.steps m → Within m (all_atoms pair) → Has m (cores_of p log)
  core_was_logged m core within = elim (or_true (has_core (cores_of p log) m) (is_refused (refused_of p log) m) (settles p pair at m within)) [
    | inl proved ↦
        let k = known_proved lot p pair at log stands m proved in
        subst (λ x. Has x (cores_of p log)) (sym (core_within pair lot.bounds.steps m k.0 core k.1 k.2)) k.3
    | inr refused ↦ absurd (known_refused lot p pair at log stands m refused core.provable)
  ]

  module _ (few : length (atoms_of_pair pair) ≤ 64) where
    -- the rules are the logged cores that leave out few enough atoms
    pub rule_is_logged : (m : AtomSet) → IsRule pair lot.bounds.steps lot.bounds.depth m ↔ (Has m (cores_of p log) × (missing 64 (all_atoms pair) m ≤ lot.bounds.depth))
    rule_is_logged m = (
      λ rule. let k = (rules_are_cores pair lot.bounds.steps few lot.bounds.depth m).0 rule in (core_was_logged m k.core k.within, k.few),
      λ h. let k = logged_core lot p pair at log stands m h.0 in (rules_are_cores pair lot.bounds.steps few lot.bounds.depth m).1 (record { core = k.0; within = k.1; few = h.1 }),
    )

    lone : (m : AtomSet) → IsCore pair lot.bounds.steps m → (i : ℕ) (t : AtomSet) → LeavesOut m i t → has_core (cores_of p log) t ≡ false
    lone m core i t leaves = by (has_core (cores_of p log) t) refl
      where
        by : (b : Bool) → has_core (cores_of p log) t ≡ b → has_core (cores_of p log) t ≡ false
        by true e = let k = known_proved lot p pair at log stands t e in absurd (core.least i t leaves (monotone pair lot.bounds.steps k.0 t k.2 k.1.provable))
        by false e = e

    -- a rule is told, and what is told is a rule
    pub rule_is_told : (m : AtomSet) → IsRule pair lot.bounds.steps lot.bounds.depth m ↔ TellsRule (all_atoms pair) lot.bounds.depth (cores_of p log) m
    rule_is_told m = (
      λ rule. let k = (rule_is_logged m).0 rule in record { found = k.0; near = k.1; lone = lone m (logged_core lot p pair at log stands m k.0).0 },
      λ told. (rule_is_logged m).1 (told.found, told.near),
    )

-- nothing pending and nothing out: each set is known
pub settled_settles : (lot : LotTree) (st : State) → Settled lot st → Settles lot st.log
settled_settles lot st h p pair at s within = by (is_known p st.log s) refl
  where
    by : (b : Bool) → is_known p st.log s ≡ b → is_known p st.log s ≡ true
    by true e = e
    by false e = absurd (h.none_pending p s (record { pair = pair; at = at; within = within; unknown = e; not_out = ap (λ ts. is_out ts p s) h.none_out }))
