-- Texts written one after another, and commands that stop on the way.
use Rattle.std.proofs.Common.{◌≡◌, ◌∙◌, ℕ, ◌+◌, ◌≤◌, min, List, [], ◌++◌, length, take, refl, ap, sym, arith}
use Rattle.std.specs.Prelude.{Some, None}
use Rattle.std.specs.declared.option.Option.{Option}
use Rattle.std.specs.Io.KnownBytes.{append_known}
use Rattle.std.proofs.Math.Seq.{take-append-add}
use Rattle.std.proofs.lemmas.List.{append-nil, take-append-le, take_all, take_min}
use Rattle.wt_io.specs.Causes.{Rose}
use Rattle.wt_io.proofs.Written.{append_known-twice}
use Rattle.wt_outcome.specs.declared.stop.Stop.{Stop}
use Rattle.wt_outcome.specs.declared.stop.Stop.TheVariants.{Read, Write, Memory}
use Rattle.wt_outcome.specs.Outcomes.{AppendsPrefix, Stops}

pub rose_since : (a b c : ℕ) → a ≤ b → Rose b c → Rose a c
rose_since a b c le h = omega arith

pub append_known-nil : (w : Option (List ℕ)) → append_known w [] ≡ w
append_known-nil None = refl
append_known-nil (Some w) = ap Some (append-nil w)

-- nothing written is a prefix of every text
pub prefix_none : (w : Option (List ℕ)) (text : List ℕ) → AppendsPrefix w w text
prefix_none w text = (0, sym (append_known-nil w))

-- what was written whole is a prefix of it
pub whole_prefix : (old new : Option (List ℕ)) (text : List ℕ) → new ≡ append_known old text → AppendsPrefix old new text
whole_prefix old new text e = (length text, e ∙ ap (append_known old) (sym (take_all (length text) text (omega arith))))

-- a prefix of what comes next is a prefix of the whole
pub prefix_after : (old mid new : Option (List ℕ)) (a b rest : List ℕ) → mid ≡ append_known old a → AppendsPrefix mid new b → AppendsPrefix old new (a ++ (b ++ rest))
prefix_after old mid new a b rest e h = (
  length a + min h.0 (length b),
  h.1 ∙ (ap (λ m. append_known m (take h.0 b)) e ∙ (append_known-twice old a (take h.0 b) ∙ ap (append_known old) (sym
      (take-append-add a (b ++ rest) (min h.0 (length b)) ∙ ap (λ t. a ++ t) (take-append-le (min h.0 (length b)) b rest (omega arith) ∙ take_min h.0 b))))),
)

-- a prefix of a text is a prefix of a longer one
pub prefix_more : (old new : Option (List ℕ)) (a rest : List ℕ) → AppendsPrefix old new a → AppendsPrefix old new (a ++ rest)
prefix_more old new a rest h = (min h.0 (length a), h.1 ∙ ap (append_known old) (sym (take-append-le (min h.0 (length a)) a rest (omega arith) ∙ take_min h.0 a)))

-- a stop while a part is written is a stop of the whole
pub stops_after : (rose rose' : Type 0) → (rose → rose') → (old mid new : Option (List ℕ)) (a b rest : List ℕ) → mid ≡ append_known old a → (stop : Stop)
    → Stops ⊥ rose mid new b stop → Stops ⊥ rose' old new (a ++ (b ++ rest)) stop
stops_after rose rose' f old mid new a b rest e Read h = absurd h.0
stops_after rose rose' f old mid new a b rest e Write h = (f h.0, prefix_after old mid new a b rest e h.1)
stops_after rose rose' f old mid new a b rest e Memory h = prefix_after old mid new a b rest e h
