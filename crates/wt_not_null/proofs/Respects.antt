-- What is known does not tell symbols apart that are the same.
use Rattle.std.proofs.Common.{ℕ, ◌≡◌, ◌⊎◌, inl, inr, Bool, true, false, ◌||◌, refl, ap, ◌∙◌}
use Rattle.std.specs.List.{list_any}
use Rattle.std.proofs.lemmas.Bool.{and_parts, and_from}
use Rattle.wt_bag.specs.Choices.{Has}
use Rattle.wt_bag.proofs.HasLaws.{list_any_has, has_list_any}
use Rattle.wt_bag.proofs.PairsByLaws.{IsEquivalent}
use Rattle.wt_facts.specs.declared.kept.Kept.{Kept}
use Rattle.wt_facts.specs.declared.facts.LeafList.{LeafList}
use Rattle.wt_facts.specs.declared.facts.Facts.{Facts}
use Rattle.wt_facts.specs.Sames.{same_class}
use Rattle.wt_facts.specs.Facts.{known_of, is_at, is_kept}
use Rattle.wt_facts.proofs.ClassLaws.{class_law}

module _ (facts : Facts) where
  pub leaf_law : IsEquivalent (known_of facts).rel
  leaf_law = class_law facts.sames.leaves

  pub list_law : IsEquivalent (known_of facts).attr
  list_law = class_law facts.sames.lists

  -- a fact of a list is a fact of each list that is the same
  at_moves : (r a b : ℕ) (l : LeafList) → (known_of facts).attr a b ≡ true → is_at facts.sames r a l ≡ true → is_at facts.sames r b l ≡ true
  at_moves r a b l same h =
      let q = and_parts (same_class facts.sames.leaves r l.leaf) (same_class facts.sames.lists a l.list) h in
      and_from (same_class facts.sames.leaves r l.leaf) (same_class facts.sames.lists b l.list) q.0 (list_law.transitive b a l.list (list_law.symmetric a b same) q.1)

  pub unique_moves : (r a b : ℕ) → (known_of facts).attr a b ≡ true → (known_of facts).unique r a ≡ true → (known_of facts).unique r b ≡ true
  unique_moves r a b same h =
      let f = has_list_any (is_at facts.sames r a) facts.unique h in
      list_any_has (is_at facts.sames r b) f.0 facts.unique f.1 (at_moves r a b f.0 same f.2)

  or_true : (x : Bool) → (x || true) ≡ true
  or_true true = refl
  or_true false = refl

  or_cases : (x y : Bool) → (x || y) ≡ true → (x ≡ true) ⊎ (y ≡ true)
  or_cases true y h = inl refl
  or_cases false y h = inr h

  kept_to : (a b c : ℕ) (k : Kept) → (known_of facts).attr b c ≡ true → is_kept facts.sames a b k ≡ true → is_kept facts.sames a c k ≡ true
  kept_to a b c k same h =
      let q = and_parts (same_class facts.sames.lists a k.upper) (same_class facts.sames.lists b k.lower) h in
      and_from (same_class facts.sames.lists a k.upper) (same_class facts.sames.lists c k.lower) q.0 (list_law.transitive c b k.lower (list_law.symmetric b c same) q.1)

  kept_from : (a b c : ℕ) (k : Kept) → (known_of facts).attr a b ≡ true → is_kept facts.sames a c k ≡ true → is_kept facts.sames b c k ≡ true
  kept_from a b c k same h =
      let q = and_parts (same_class facts.sames.lists a k.upper) (same_class facts.sames.lists c k.lower) h in
      and_from (same_class facts.sames.lists b k.upper) (same_class facts.sames.lists c k.lower) (list_law.transitive b a k.upper (list_law.symmetric a b same) q.0) q.1

  -- the columns of a list are among those of another, of each that is the same as that one
  pub within_to : (a b c : ℕ) → (known_of facts).within a b ≡ true → (known_of facts).attr b c ≡ true → (known_of facts).within a c ≡ true
  within_to a b c h same = go (or_cases (same_class facts.sames.lists a b) (list_any (is_kept facts.sames a b) facts.kept) h)
    where
      go : (same_class facts.sames.lists a b ≡ true) ⊎ (list_any (is_kept facts.sames a b) facts.kept ≡ true) → (same_class facts.sames.lists a c || list_any (is_kept facts.sames a c) facts.kept) ≡ true
      go (inl e) = ap (λ t. t || list_any (is_kept facts.sames a c) facts.kept) (list_law.transitive a b c e same)
      go (inr e) =
          let f = has_list_any (is_kept facts.sames a b) facts.kept e in
          ap (λ t. same_class facts.sames.lists a c || t) (list_any_has (is_kept facts.sames a c) f.0 facts.kept f.1 (kept_to a b c f.0 same f.2)) ∙ or_true (same_class facts.sames.lists a c)

  pub within_from : (a b c : ℕ) → (known_of facts).attr a b ≡ true → (known_of facts).within a c ≡ true → (known_of facts).within b c ≡ true
  within_from a b c same h = go (or_cases (same_class facts.sames.lists a c) (list_any (is_kept facts.sames a c) facts.kept) h)
    where
      go : (same_class facts.sames.lists a c ≡ true) ⊎ (list_any (is_kept facts.sames a c) facts.kept ≡ true) → (same_class facts.sames.lists b c || list_any (is_kept facts.sames b c) facts.kept) ≡ true
      go (inl e) = ap (λ t. t || list_any (is_kept facts.sames b c) facts.kept) (list_law.transitive b a c (list_law.symmetric a b same) e)
      go (inr e) =
          let f = has_list_any (is_kept facts.sames a c) facts.kept e in
          ap (λ t. same_class facts.sames.lists b c || t) (list_any_has (is_kept facts.sames b c) f.0 facts.kept f.1 (kept_from a b c f.0 same f.2)) ∙ or_true (same_class facts.sames.lists b c)

  -- each fact that holds is one of the list, up to symbols that are the same
  pub unique_entry : (r a : ℕ) → (known_of facts).unique r a ≡ true → (l : LeafList) × Has l facts.unique × ((known_of facts).rel r l.leaf ≡ true) × ((known_of facts).attr a l.list ≡ true)
  unique_entry r a h =
      let f = has_list_any (is_at facts.sames r a) facts.unique h in
      let q = and_parts (same_class facts.sames.leaves r f.0.leaf) (same_class facts.sames.lists a f.0.list) f.2 in
      (f.0, f.1, q.0, q.1)

  pub entry_unique : (r a : ℕ) (l : LeafList) → Has l facts.unique → (known_of facts).rel r l.leaf ≡ true → (known_of facts).attr a l.list ≡ true → (known_of facts).unique r a ≡ true
  entry_unique r a l h leaf list = list_any_has (is_at facts.sames r a) l facts.unique h (and_from (same_class facts.sames.leaves r l.leaf) (same_class facts.sames.lists a l.list) leaf list)

  pub not_null_entry : (r a : ℕ) → (known_of facts).not_null r a ≡ true → (l : LeafList) × Has l facts.not_null × ((known_of facts).rel r l.leaf ≡ true) × ((known_of facts).attr a l.list ≡ true)
  not_null_entry r a h =
      let f = has_list_any (is_at facts.sames r a) facts.not_null h in
      let q = and_parts (same_class facts.sames.leaves r f.0.leaf) (same_class facts.sames.lists a f.0.list) f.2 in
      (f.0, f.1, q.0, q.1)

  pub entry_not_null : (r a : ℕ) (l : LeafList) → Has l facts.not_null → (known_of facts).rel r l.leaf ≡ true → (known_of facts).attr a l.list ≡ true → (known_of facts).not_null r a ≡ true
  entry_not_null r a l h leaf list = list_any_has (is_at facts.sames r a) l facts.not_null h (and_from (same_class facts.sames.leaves r l.leaf) (same_class facts.sames.lists a l.list) leaf list)
