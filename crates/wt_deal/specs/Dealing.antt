-- Numbers that are dealt: those in the deque and those that were taken are together the numbers below a count, each once.
use Rattle.std.specs.Prelude.{◌≡◌, ℕ, ◌+◌, ◌-◌, ◌≤◌, Bool, true, false, ◌==◌, nat_lt, List, [], ◌∷◌, ◌++◌}
use Rattle.std.proofs.Common.{Global}
use Rattle.wt_deal.specs.declared.rule.Hand.{Hand}

abbrev pub hand : ℕ → ℕ → ℕ → ℕ → List ℕ → Hand
hand boss away pushed out taken = record { boss = boss; away = away; pushed = pushed; out = out; taken = taken }

abbrev pub one : Bool → ℕ
one true = 1
one false = 0

-- how often a number is in a list
abbrev pub times : ℕ → List ℕ → ℕ
times x [] = 0
times x (y ∷ ys) = one (y == x) + times x ys

-- no number is in the list twice
abbrev pub IsOnceEach : List ℕ → Type 0
IsOnceEach xs = (x : ℕ) → times x xs ≤ 1

-- the numbers of the views, added up
abbrev pub total : (Hand → ℕ) → List Hand → ℕ
total f [] = 0
total f (v ∷ vs) = f v + total f vs

-- the owner alone pushes and knows how many thieves are out; a pass that is neither the owner's nor out has no numbers
pub record Fits (v : Hand) : Type 0 where
  pub either : v.boss + v.away ≤ 1
  pub pushed : v.boss ≡ 0 → v.pushed ≡ 0
  pub out : v.boss ≡ 0 → v.out ≡ 0
  pub idle : v.boss ≡ 0 → v.away ≡ 0 → v.taken ≡ []

abbrev pub EachFits : List Hand → Type 0
EachFits [] = Unit {0}
EachFits (v ∷ vs) = Fits v × EachFits vs

-- the deque's numbers and those that all passes took, put together, are the numbers below the count of pushes, each once
pub record Dealt (items : List ℕ) (views : List Hand) : Type 0 where
  pub one_boss : total (λ v. v.boss) views ≡ 1
  pub away : total (λ v. v.away) views ≡ total (λ v. v.out) views
  pub dealt : (x : ℕ) → total (λ v. times x v.taken) views + times x items ≡ one (nat_lt x (total (λ v. v.pushed) views))
  pub fits : EachFits views

-- where no thief is out, the owner took each number below the count once
abbrev pub AllTaken : Hand → Type 0
AllTaken v = v.boss ≡ 1 → v.out ≡ 0 → (x : ℕ) → times x v.taken ≡ one (nat_lt x v.pushed)

-- a dealer: its deque, how many numbers were dealt, how many thieves are out, and what was taken here or by thieves that ended
pub record DealerTree : Type 0 where
  pub deque : (ℕ × ℕ) × Global
  pub count : ℕ
  pub out : ℕ
  pub taken : List ℕ

-- a thief: its deque, and what it took
pub record ThiefTree : Type 0 where
  pub deque : (ℕ × ℕ) × Global
  pub taken : List ℕ

-- a dealer of which nothing was taken yet
abbrev pub dealt : (ℕ × ℕ) × Global → ℕ → DealerTree
dealt deque count = record { deque = deque; count = count; out = 0; taken = [] }

abbrev pub with_one : DealerTree → ℕ → DealerTree
with_one d n = record { deque = d.deque; count = d.count; out = d.out; taken = d.taken ++ n ∷ [] }

abbrev pub with_thief : DealerTree → DealerTree
with_thief d = record { deque = d.deque; count = d.count; out = d.out + 1; taken = d.taken }

abbrev pub without_thief : DealerTree → List ℕ → DealerTree
without_thief d numbers = record { deque = d.deque; count = d.count; out = d.out - 1; taken = d.taken ++ numbers }

-- where no thief is out, each number below the count was taken once
abbrev pub IsAllDealt : DealerTree → Type 0
IsAllDealt d = d.out ≡ 0 → (x : ℕ) → times x d.taken ≡ one (nat_lt x d.count)
