-- The lines of the rules of pairs, one lot after another.
use Rattle.std.proofs.Common.{◌≡◌, ◌∙◌, ℕ, zero, suc, ◌+◌, ◌-◌, ◌<◌, ◌≤◌, ◌^◌, min, List, [], ◌∷◌, ◌++◌, get_or, length, take, drop, map, refl, ap, sym, subst, arith, append_assoc, append-nil, length-drop, length-take, inl, inr}
use Rattle.std.specs.Prelude.{◌↔◌, IsNone, is_some, Some, None, Ok, Err}
use Rattle.std.proofs.Math.Seq.{take-append-add}
use Rattle.std.proofs.lemmas.Bool.{true≢false}
use Rattle.std.proofs.lemmas.List.{length-map, map_more, take-map}
use Rattle.std.specs.Io.KnownBytes.{append_known}
use Rattle.std.specs.declared.option.Option.{Option}
use Rattle.wt_discover.specs.Files.{AreAllLines, AreCounted, AreLines}
use Rattle.wt_discover.proofs.Counted.{all_lines_append}
use Rattle.wt_io.proofs.Written.{append_known-twice}
use Rattle.wt_pair.specs.Candidates.{pairs_of}
use Rattle.wt_pair.specs.declared.bounds.Bounds.{Bounds}
use Rattle.wt_pair.specs.declared.lot.Lot.{Lot}
use Rattle.wt_pair.specs.Lots.{IsNextLot}
use Rattle.wt_pair.specs.Walk.{Progress}
use Rattle.wt_rule.specs.Texts.{head_line, end_line}
use Rattle.wt_symbol.specs.Sides.{PairTree, pair_of}
use Rattle.wt_symbol.specs.declared.side.Pair.{Pair}
use Rattle.wt_outcome.specs.declared.stop.Stop.{Stop}
use Rattle.wt_outcome.specs.declared.stop.Stop.TheVariants.{Memory}
use Rattle.wt_discovery.specs.Discovering.{Discovers, IsWhole, PutsRulesOf}
use Rattle.wt_outcome.specs.Outcomes.{Outcome, Stops}
use Rattle.wt_outcome.proofs.Putting.{append_known-nil, stops_after, whole_prefix}

-- the lines of these pairs were put, and their number was counted
pub record PutSoFar (steps depth : ℕ) (pairs : List PairTree) (old new : Option (List ℕ)) (count : ℕ) : Type 0 where
  pub lines : List ℕ
  pub are : AreCounted steps depth pairs lines count
  pub put : new ≡ append_known old lines

-- the lines of more pairs behind those before
pub so_far_next : (steps depth : ℕ) (ps qs all : List PairTree) (old mid new : Option (List ℕ)) (text : List ℕ) (count more next : ℕ) → all ≡ ps ++ qs → next ≡ min (count + more) (2 ^ 64 - 1)
    → PutSoFar steps depth ps old mid count → AreAllLines steps depth qs text more → new ≡ append_known mid text → PutSoFar steps depth all old new next
so_far_next steps depth ps qs all old mid new text count more next together added a b put = record {
  lines = a.lines ++ text;
  are = record {
    number = a.are.number + more;
    are = subst (λ l. AreAllLines steps depth l (a.lines ++ text) (a.are.number + more)) (sym together) (all_lines_append steps depth ps qs a.lines text a.are.number more a.are.are b);
    counted = let x = a.are.counted in omega arith;
  };
  put = put ∙ (ap (λ m. append_known m text) a.put ∙ append_known-twice old a.lines text);
}

-- a number that was counted as far as 64 bits go, and more
pub counted_on : (count found number next : ℕ) → next ≡ min (count + found) (2 ^ 64 - 1) → found ≡ min number (2 ^ 64 - 1) → next ≡ min (count + number) (2 ^ 64 - 1)
counted_on count found number next a b = omega (arith, a, b)

less : (a b : ℕ) → (b ≤ a → ⊥) → a < b
less a zero h = absurd (h (omega arith))
less zero (suc b) h = omega arith
less (suc a) (suc b) h = let k = less a b (λ l. h (omega arith)) in omega arith

-- after a lot fewer pairs are left
pub fewer_left : (b : Bounds) (old new : Progress) (lot : Lot) (o : Option Lot) → o ≡ Some lot → (IsNone o ↔ (length (pairs_of old.bounds) ≤ old.first)) → old.bounds ≡ b → IsNextLot old new lot
    → length (pairs_of b) - new.first < length (pairs_of b) - old.first
fewer_left b old new lot o is end same next =
    let more : old.first < length (pairs_of old.bounds) = less old.first (length (pairs_of old.bounds)) (λ l. true≢false (ap is_some (sym is) ∙ end.1 l)) in
    let many : length lot.pairs ≡ min 4096 (length (pairs_of old.bounds) - old.first) =
    sym (length-map lot.pairs pair_of) ∙ ap length next.pairs ∙ length-take 4096 (drop old.first (pairs_of old.bounds)) ∙ ap (min 4096) (length-drop old.first (pairs_of old.bounds)) in
    subst (λ x. length (pairs_of x) - new.first < length (pairs_of x) - old.first) same (let moved = next.next in omega arith)

-- the first pairs of the first pairs
first_of_first : {X : Type 0} (n m : ℕ) (xs : List X) → (k : ℕ) × (take k xs ≡ take n (take m xs))
first_of_first zero m xs = (0, refl)
first_of_first (suc n) zero xs = (0, refl)
first_of_first (suc n) (suc m) [] = (0, refl)
first_of_first (suc n) (suc m) (x ∷ xs) = let (k, e) = first_of_first n m xs in (suc k, ap (λ ys. x ∷ ys) e)

module _ (b : Bounds) (pairs : List PairTree) where
  -- want of memory behind the lines of the first pairs
  pub stops_here : (rose : Type 0) (n : ℕ) (old new : Option (List ℕ)) (count : ℕ) → PutSoFar b.steps b.depth (take n pairs) old new count → PutsRulesOf b pairs rose old new (Err Memory)
  stops_here rose n old new count s = (n, s.lines, s.are.number, s.are.are, whole_prefix old new s.lines s.put)

  -- a stop in the lines of the pairs that are next
  pub stops_in : (rose rose' : Type 0) → (rose → rose') → (n m : ℕ) (part : List PairTree) (old mid new : Option (List ℕ)) (count more : ℕ) (text : List ℕ) (stop : Stop)
      → take m pairs ≡ take n pairs ++ part → PutSoFar b.steps b.depth (take n pairs) old mid count → AreAllLines b.steps b.depth part text more → Stops ⊥ rose mid new text stop
      → PutsRulesOf b pairs rose' old new (Err stop)
  stops_in rose rose' f n m part old mid new count more text stop together s are h = (
    m,
    s.lines ++ text,
    s.are.number + more,
    subst (λ l. AreAllLines b.steps b.depth l (s.lines ++ text) (s.are.number + more)) (sym together)
        (all_lines_append b.steps b.depth (take n pairs) part s.lines text s.are.number more s.are.are are),
    subst (λ t. Stops ⊥ rose' old new (s.lines ++ t) stop) (append-nil text) (stops_after rose rose' f old mid new s.lines text [] s.put stop h),
  )

  -- a stop while the lines of a lot are put
  pub stops_in_lot : (rose rose' : Type 0) → (rose → rose') → (n m : ℕ) (lot : List PairTree) (old mid new : Option (List ℕ)) (count : ℕ) (stop : Stop)
      → take m pairs ≡ take n pairs ++ lot → PutSoFar b.steps b.depth (take n pairs) old mid count → PutsRulesOf b lot rose mid new (Err stop) → PutsRulesOf b pairs rose' old new (Err stop)
  stops_in_lot rose rose' f n m lot old mid new count stop together s (k, lines, more, are, h) =
      let (first, is) = first_of_first (length (take n pairs) + k) m pairs in
      let within : take first pairs ≡ take n pairs ++ take k lot = is ∙ ap (take (length (take n pairs) + k)) together ∙ take-append-add (take n pairs) lot k in
      stops_in rose rose' f n first (take k lot) old mid new count more lines stop within s are h

-- the lines of a pair alone
pub lines_of_one : (p : PairTree) (steps depth : ℕ) (text : List ℕ) (count : ℕ) → AreLines p steps depth text count → AreAllLines steps depth (p ∷ []) text count
lines_of_one p steps depth text count are = (text, count, [], 0, are, (refl, refl), sym (append-nil text), omega arith)

-- the trees of the first pairs and of the next one
pub next_pair : (pairs : List Pair) (i : ℕ) (x d : Pair) → i < length pairs → x ≡ get_or pairs i d → take (i + 1) (map pair_of pairs) ≡ take i (map pair_of pairs) ++ pair_of x ∷ []
next_pair pairs i x d within is =
    take-map pair_of (i + 1) pairs ∙ map_more pair_of pairs i d within ∙ ap (λ y. map pair_of (take i pairs) ++ pair_of y ∷ []) (sym is)
    ∙ ap (λ l. l ++ pair_of x ∷ []) (sym (take-map pair_of i pairs))

-- the pairs given with a lot are those given before it and its own
pub next_pairs : (b : Bounds) (old new : Progress) (lot : Lot) (pairs : List Pair) → old.bounds ≡ b → pairs ≡ lot.pairs → IsNextLot old new lot → take new.first (pairs_of b) ≡ take old.first (pairs_of b) ++ map pair_of pairs
next_pairs b old new lot pairs same items next =
    subst (λ ps. take new.first (pairs_of b) ≡ take old.first (pairs_of b) ++ map pair_of ps) (sym items)
    (subst (λ x. take new.first (pairs_of x) ≡ take old.first (pairs_of x) ++ map pair_of lot.pairs) same next.together)

-- the whole run, from how its parts end
module _ (b : Bounds) (rose : Type 0) (old : Option (List ℕ)) where
  -- the head was not written whole, or not at all
  pub stops_before : (rose' : Type 0) → (rose' → rose) → (new : Option (List ℕ)) (stop : Stop) → Stops ⊥ rose' old new (head_line b.steps) stop → Discovers b rose old new (Err stop)
  stops_before rose' f new stop h = (
    record { status = None; text = head_line b.steps ++ [] },
    inr (0, [], 0, (refl, refl), refl),
    stops_after rose' rose f old old new [] (head_line b.steps) [] (sym (append_known-nil old)) stop h,
  )

  module _ (mid : Option (List ℕ)) (head : mid ≡ append_known old (head_line b.steps)) where
    pub stops_between : (rose' : Type 0) → (rose' → rose) → (new : Option (List ℕ)) (stop : Stop) → PutsRulesOf b (pairs_of b) rose' mid new (Err stop) → Discovers b rose old new (Err stop)
    stops_between rose' f new stop h = (
      record { status = None; text = head_line b.steps ++ h.1 },
      inr (h.0, h.1, h.2, h.3, refl),
      subst (λ t. Stops ⊥ rose old new (head_line b.steps ++ t) stop) (append-nil h.1) (stops_after rose' rose f old mid new (head_line b.steps) h.1 [] head stop h.4),
    )

    module _ (put : Option (List ℕ)) (lines : List ℕ) (count : ℕ) (are : AreCounted b.steps b.depth (pairs_of b) lines count) (rules : put ≡ append_known mid lines) where
      abbrev ended : Outcome
      ended = record { status = Some 0; text = head_line b.steps ++ (lines ++ end_line count) }

      ended_whole : IsWhole b ended
      ended_whole = (
        record {
          lines = lines;
          count = are.number;
          are = are.are;
          is = ap (λ n. head_line b.steps ++ (lines ++ end_line n)) are.counted;
        },
        refl,
      )

      both : put ≡ append_known old (head_line b.steps ++ lines)
      both = rules ∙ (ap (λ m. append_known m lines) head ∙ append_known-twice old (head_line b.steps) lines)

      same_text : (head_line b.steps ++ lines) ++ (end_line count ++ []) ≡ head_line b.steps ++ (lines ++ end_line count)
      same_text = ap (λ t. (head_line b.steps ++ lines) ++ t) (append-nil (end_line count)) ∙ append_assoc (head_line b.steps) lines (end_line count)

      pub stops_after_rules : (rose' : Type 0) → (rose' → rose) → (new : Option (List ℕ)) (stop : Stop) (end : List ℕ) → end ≡ end_line count → Stops ⊥ rose' put new end stop → Discovers b rose old new (Err stop)
      stops_after_rules rose' f new stop end is h = (
        ended,
        inl ended_whole,
        subst (λ t. Stops ⊥ rose old new t stop) same_text
            (stops_after rose' rose f old put new (head_line b.steps ++ lines) (end_line count) [] both stop (subst (λ t. Stops ⊥ rose' put new t stop) is h)),
      )

      pub ends_whole : (new : Option (List ℕ)) → new ≡ append_known put (end_line count) → Discovers b rose old new (Ok 0)
      ends_whole new e = (
        ended,
        ended_whole,
        refl,
        e ∙ (ap (λ m. append_known m (end_line count)) both ∙ (append_known-twice old (head_line b.steps ++ lines) (end_line count) ∙ ap (append_known old) (append_assoc (head_line b.steps) lines (end_line count)))),
      )
