-- A rule file has one answer, and its rules are good.
use Rattle.std.proofs.Common.{◌≡◌, ◌≢◌, ℕ, suc, ◌+◌, ◌≤◌, true, false, List, [], ◌∷◌, length, Ok, Err, refl, sym, ap, subst, ◌∙◌, inl, inr, arith}
use Rattle.std.specs.Prelude.{◌⊎◌, Result}
use Rattle.wt_bag.specs.Bags.{Each}
use Rattle.wt_form.specs.Under.{Provable}
use Rattle.wt_rule_text.specs.declared.parsed.Version.{Version}
use Rattle.wt_rule_line.specs.declared.fault.RuleFault.{RuleFault}
use Rattle.wt_rule_line.proofs.LineLaws.{one_rule_stated, not_refused, one_fault}
use Rattle.wt_rule_file.specs.Files.{Line, lines_of, first_text, behind_first, Ends, StatesCount, RuleTree, BookTree, IsProvedRule, IsRefusedRule, not_ended, refused, not_proved, Give, no_end, long_line, many_rules, bad_end, wrong_end, the_end, bad_rule, a_rule, later_fault, AreRead, long_head, no_head, open_head, read, book_from, IsAnswer}
use Rattle.wt_rule_file.specs.Good.{IsGoodWithin}
use Rattle.wt_rule_file.proofs.Scanning.{one_head, one_count}

-- ---- one line

states_end : {m : ℕ} {text : List ℕ} → StatesCount m text → Ends text
states_end (digits, number, is) = (digits, is)

unread_end : {m : ℕ} {l : Line} → ((l.ended ≡ false) ⊎ ((m : ℕ) → StatesCount m l.text → ⊥)) → l.ended ≡ true → StatesCount m l.text → ⊥
unread_end (inl unended) ended states = let never : false ≡ true = sym unended ∙ ended in absurd (cc)
unread_end {m = m} (inr none) ended states = none m states

wrong_or_right : {m count : ℕ} {text : List ℕ} → StatesCount m text → ((m ≢ count) ⊎ (◌≡◌ {A = List Line} [] [] → ⊥)) → StatesCount count text → ⊥
wrong_or_right {m = m} {count = count} {text = text} states (inl other) right = other (one_count text m count states right)
wrong_or_right states (inr some) right = some refl

one_refusal : {v : Version} {steps : ℕ} {l : Line} {f g : RuleFault} → IsRefusedRule v steps l f → IsRefusedRule v steps l g → f ≡ g
one_refusal (not_ended a) (not_ended b) = refl
one_refusal (not_ended a) (refused b is) = absurd (cc)
one_refusal (not_ended a) (not_proved b states never) = absurd (cc)
one_refusal (refused a is) (not_ended b) = absurd (cc)
one_refusal {v = v} {l = l} {f = f} {g = g} (refused a is) (refused b at) = one_fault v l.text f g is at
one_refusal {v = v} {l = l} {f = f} (refused a is) (not_proved {p = p} {set = set} b states never) = absurd (not_refused v l.text p set f states is)
one_refusal (not_proved a states never) (not_ended b) = absurd (cc)
one_refusal {v = v} {l = l} {g = g} (not_proved {p = p} {set = set} a states never) (refused b is) = absurd (not_refused v l.text p set g states is)
one_refusal (not_proved a states never) (not_proved b states' never') = refl

refused_or_proved : {v : Version} {steps : ℕ} {l : Line} {f : RuleFault} {rule : RuleTree} → IsRefusedRule v steps l f → IsProvedRule v steps l rule → ⊥
refused_or_proved (not_ended a) proved = let ended = proved.ended in absurd (cc)
refused_or_proved {v = v} {l = l} {f = f} {rule = rule} (refused a is) proved = not_refused v l.text rule.pair rule.set f proved.states is
refused_or_proved {v = v} {steps = steps} {l = l} {rule = rule} (not_proved {p = p} {set = set} a states never) proved =
    let same = one_rule_stated v l.text rule.pair p rule.set set proved.states states in
    never (subst (λ s. Provable p s steps) same.1 (subst (λ q. Provable q rule.set steps) same.0 proved.proved))

one_proved : {v : Version} {steps : ℕ} {l : Line} {a b : RuleTree} → IsProvedRule v steps l a → IsProvedRule v steps l b → a ≡ b
one_proved {v = v} {l = l} {a = a} {b = b} p q =
    let same = one_rule_stated v l.text a.pair b.pair a.set b.set p.states q.states in
    ap (λ x. record { pair = x; set = a.set }) same.0 ∙ ap (λ s. record { pair = b.pair; set = s }) same.1

-- ---- line after line

same_rules : {a b : RuleTree} {xs ys : List RuleTree} → a ≡ b → ◌≡◌ {A = Result (List RuleTree) (RuleFault × ℕ)} (Ok xs) (Ok ys) → ◌≡◌ {A = Result (List RuleTree) (RuleFault × ℕ)} (Ok (a ∷ xs)) (Ok (b ∷ ys))
same_rules same rest = cc

ok_or_err : {xs : List RuleTree} {e : RuleFault × ℕ} → ◌≡◌ {A = Result (List RuleTree) (RuleFault × ℕ)} (Ok xs) (Err e) → ⊥
ok_or_err is = absurd (cc)

same_answer : (v : Version) (steps n count : ℕ) (ls : List Line) (a b : Result (List RuleTree) (RuleFault × ℕ)) → Give v steps n count ls a → Give v steps n count ls b → a ≡ b
same_answer v steps n count [] a b no_end no_end = refl
same_answer v steps n count (l ∷ ls) a b (long_line h1) (long_line h2) = refl
same_answer v steps n count (l ∷ ls) a b (long_line h1) (many_rules s2 e2 q2) = absurd (omega (arith, h1, s2))
same_answer v steps n count (l ∷ ls) a b (long_line h1) (bad_end s2 e2 w2) = absurd (omega (arith, h1, s2))
same_answer v steps n count (l ∷ ls) a b (long_line h1) (wrong_end s2 d2 st2 w2) = absurd (omega (arith, h1, s2))
same_answer v steps n count (l ∷ []) a b (long_line h1) (the_end s2 d2 st2) = absurd (omega (arith, h1, s2))
same_answer v steps n count (l ∷ ls) a b (long_line h1) (bad_rule s2 e2 r2 f2) = absurd (omega (arith, h1, s2))
same_answer v steps n count (l ∷ ls) a b (long_line h1) (a_rule s2 e2 r2 p2 g2) = absurd (omega (arith, h1, s2))
same_answer v steps n count (l ∷ ls) a b (long_line h1) (later_fault s2 e2 r2 p2 g2) = absurd (omega (arith, h1, s2))
same_answer v steps n count (l ∷ ls) a b (many_rules s1 e1 q1) (long_line h2) = absurd (omega (arith, h2, s1))
same_answer v steps n count (l ∷ ls) a b (many_rules s1 e1 q1) (many_rules s2 e2 q2) = refl
same_answer v steps n count (l ∷ ls) a b (many_rules s1 e1 q1) (bad_end s2 e2 w2) = absurd (e1 e2)
same_answer v steps n count (l ∷ ls) a b (many_rules s1 e1 q1) (wrong_end s2 d2 st2 w2) = absurd (e1 (states_end st2))
same_answer v steps n count (l ∷ []) a b (many_rules s1 e1 q1) (the_end s2 d2 st2) = absurd (e1 (states_end st2))
same_answer v steps n count (l ∷ ls) a b (many_rules s1 e1 q1) (bad_rule s2 e2 r2 f2) = absurd (omega (arith, q1, r2))
same_answer v steps n count (l ∷ ls) a b (many_rules s1 e1 q1) (a_rule s2 e2 r2 p2 g2) = absurd (omega (arith, q1, r2))
same_answer v steps n count (l ∷ ls) a b (many_rules s1 e1 q1) (later_fault s2 e2 r2 p2 g2) = absurd (omega (arith, q1, r2))
same_answer v steps n count (l ∷ ls) a b (bad_end s1 e1 w1) (long_line h2) = absurd (omega (arith, h2, s1))
same_answer v steps n count (l ∷ ls) a b (bad_end s1 e1 w1) (many_rules s2 e2 q2) = absurd (e2 e1)
same_answer v steps n count (l ∷ ls) a b (bad_end s1 e1 w1) (bad_end s2 e2 w2) = refl
same_answer v steps n count (l ∷ ls) a b (bad_end s1 e1 w1) (wrong_end s2 d2 st2 w2) = absurd (unread_end w1 d2 st2)
same_answer v steps n count (l ∷ []) a b (bad_end s1 e1 w1) (the_end s2 d2 st2) = absurd (unread_end w1 d2 st2)
same_answer v steps n count (l ∷ ls) a b (bad_end s1 e1 w1) (bad_rule s2 e2 r2 f2) = absurd (e2 e1)
same_answer v steps n count (l ∷ ls) a b (bad_end s1 e1 w1) (a_rule s2 e2 r2 p2 g2) = absurd (e2 e1)
same_answer v steps n count (l ∷ ls) a b (bad_end s1 e1 w1) (later_fault s2 e2 r2 p2 g2) = absurd (e2 e1)
same_answer v steps n count (l ∷ ls) a b (wrong_end s1 d1 st1 w1) (long_line h2) = absurd (omega (arith, h2, s1))
same_answer v steps n count (l ∷ ls) a b (wrong_end s1 d1 st1 w1) (many_rules s2 e2 q2) = absurd (e2 (states_end st1))
same_answer v steps n count (l ∷ ls) a b (wrong_end s1 d1 st1 w1) (bad_end s2 e2 w2) = absurd (unread_end w2 d1 st1)
same_answer v steps n count (l ∷ ls) a b (wrong_end s1 d1 st1 w1) (wrong_end s2 d2 st2 w2) = refl
same_answer v steps n count (l ∷ []) a b (wrong_end s1 d1 st1 w1) (the_end s2 d2 st2) = absurd (wrong_or_right st1 w1 st2)
same_answer v steps n count (l ∷ ls) a b (wrong_end s1 d1 st1 w1) (bad_rule s2 e2 r2 f2) = absurd (e2 (states_end st1))
same_answer v steps n count (l ∷ ls) a b (wrong_end s1 d1 st1 w1) (a_rule s2 e2 r2 p2 g2) = absurd (e2 (states_end st1))
same_answer v steps n count (l ∷ ls) a b (wrong_end s1 d1 st1 w1) (later_fault s2 e2 r2 p2 g2) = absurd (e2 (states_end st1))
same_answer v steps n count (l ∷ []) a b (the_end s1 d1 st1) (long_line h2) = absurd (omega (arith, h2, s1))
same_answer v steps n count (l ∷ []) a b (the_end s1 d1 st1) (many_rules s2 e2 q2) = absurd (e2 (states_end st1))
same_answer v steps n count (l ∷ []) a b (the_end s1 d1 st1) (bad_end s2 e2 w2) = absurd (unread_end w2 d1 st1)
same_answer v steps n count (l ∷ []) a b (the_end s1 d1 st1) (wrong_end s2 d2 st2 w2) = absurd (wrong_or_right st2 w2 st1)
same_answer v steps n count (l ∷ []) a b (the_end s1 d1 st1) (the_end s2 d2 st2) = refl
same_answer v steps n count (l ∷ []) a b (the_end s1 d1 st1) (bad_rule s2 e2 r2 f2) = absurd (e2 (states_end st1))
same_answer v steps n count (l ∷ []) a b (the_end s1 d1 st1) (a_rule s2 e2 r2 p2 g2) = absurd (e2 (states_end st1))
same_answer v steps n count (l ∷ []) a b (the_end s1 d1 st1) (later_fault s2 e2 r2 p2 g2) = absurd (e2 (states_end st1))
same_answer v steps n count (l ∷ ls) a b (bad_rule s1 e1 r1 f1) (long_line h2) = absurd (omega (arith, h2, s1))
same_answer v steps n count (l ∷ ls) a b (bad_rule s1 e1 r1 f1) (many_rules s2 e2 q2) = absurd (omega (arith, q2, r1))
same_answer v steps n count (l ∷ ls) a b (bad_rule s1 e1 r1 f1) (bad_end s2 e2 w2) = absurd (e1 e2)
same_answer v steps n count (l ∷ ls) a b (bad_rule s1 e1 r1 f1) (wrong_end s2 d2 st2 w2) = absurd (e1 (states_end st2))
same_answer v steps n count (l ∷ []) a b (bad_rule s1 e1 r1 f1) (the_end s2 d2 st2) = absurd (e1 (states_end st2))
same_answer v steps n count (l ∷ ls) a b (bad_rule s1 e1 r1 f1) (bad_rule s2 e2 r2 f2) = ap (λ f. Err (f, n)) (one_refusal f1 f2)
same_answer v steps n count (l ∷ ls) a b (bad_rule s1 e1 r1 f1) (a_rule s2 e2 r2 p2 g2) = absurd (refused_or_proved f1 p2)
same_answer v steps n count (l ∷ ls) a b (bad_rule s1 e1 r1 f1) (later_fault s2 e2 r2 p2 g2) = absurd (refused_or_proved f1 p2)
same_answer v steps n count (l ∷ ls) a b (a_rule s1 e1 r1 p1 g1) (long_line h2) = absurd (omega (arith, h2, s1))
same_answer v steps n count (l ∷ ls) a b (a_rule s1 e1 r1 p1 g1) (many_rules s2 e2 q2) = absurd (omega (arith, q2, r1))
same_answer v steps n count (l ∷ ls) a b (a_rule s1 e1 r1 p1 g1) (bad_end s2 e2 w2) = absurd (e1 e2)
same_answer v steps n count (l ∷ ls) a b (a_rule s1 e1 r1 p1 g1) (wrong_end s2 d2 st2 w2) = absurd (e1 (states_end st2))
same_answer v steps n count (l ∷ []) a b (a_rule s1 e1 r1 p1 g1) (the_end s2 d2 st2) = absurd (e1 (states_end st2))
same_answer v steps n count (l ∷ ls) a b (a_rule s1 e1 r1 p1 g1) (bad_rule s2 e2 r2 f2) = absurd (refused_or_proved f2 p1)
same_answer v steps n count (l ∷ ls) a b (a_rule s1 e1 r1 p1 g1) (a_rule s2 e2 r2 p2 g2) = same_rules (one_proved p1 p2) (same_answer v steps (suc n) (suc count) ls _ _ g1 g2)
same_answer v steps n count (l ∷ ls) a b (a_rule s1 e1 r1 p1 g1) (later_fault s2 e2 r2 p2 g2) = absurd (ok_or_err (same_answer v steps (suc n) (suc count) ls _ _ g1 g2))
same_answer v steps n count (l ∷ ls) a b (later_fault s1 e1 r1 p1 g1) (long_line h2) = absurd (omega (arith, h2, s1))
same_answer v steps n count (l ∷ ls) a b (later_fault s1 e1 r1 p1 g1) (many_rules s2 e2 q2) = absurd (omega (arith, q2, r1))
same_answer v steps n count (l ∷ ls) a b (later_fault s1 e1 r1 p1 g1) (bad_end s2 e2 w2) = absurd (e1 e2)
same_answer v steps n count (l ∷ ls) a b (later_fault s1 e1 r1 p1 g1) (wrong_end s2 d2 st2 w2) = absurd (e1 (states_end st2))
same_answer v steps n count (l ∷ []) a b (later_fault s1 e1 r1 p1 g1) (the_end s2 d2 st2) = absurd (e1 (states_end st2))
same_answer v steps n count (l ∷ ls) a b (later_fault s1 e1 r1 p1 g1) (bad_rule s2 e2 r2 f2) = absurd (refused_or_proved f2 p1)
same_answer v steps n count (l ∷ ls) a b (later_fault s1 e1 r1 p1 g1) (a_rule s2 e2 r2 p2 g2) = absurd (ok_or_err (sym (same_answer v steps (suc n) (suc count) ls _ _ g1 g2)))
same_answer v steps n count (l ∷ ls) a b (later_fault s1 e1 r1 p1 g1) (later_fault s2 e2 r2 p2 g2) = same_answer v steps (suc n) (suc count) ls _ _ g1 g2

-- ---- files

one_read : (ls : List Line) (a b : Result BookTree (RuleFault × ℕ)) → AreRead ls a → AreRead ls b → a ≡ b
one_read ls a b (long_head h) (long_head k) = refl
one_read ls a b (long_head h) (no_head s none) = absurd (omega (arith, h, s))
one_read ls a b (long_head h) (open_head s is d) = absurd (omega (arith, h, s))
one_read ls a b (long_head h) (read s is d g) = absurd (omega (arith, h, s))
one_read ls a b (no_head s none) (long_head k) = absurd (omega (arith, k, s))
one_read ls a b (no_head s none) (no_head t none') = refl
one_read ls a b (no_head s none) (open_head {version = v} {steps = n} t is d) = absurd (none v n is)
one_read ls a b (no_head s none) (read {version = v} {steps = n} t is d g) = absurd (none v n is)
one_read ls a b (open_head s is d) (long_head k) = absurd (omega (arith, k, s))
one_read ls a b (open_head {version = v} {steps = n} s is d) (no_head t none) = absurd (none v n is)
one_read ls a b (open_head s is d) (open_head t is' d') = refl
one_read ls a b (open_head s is d) (read t is' d' g) = let never : false ≡ true = sym d ∙ d' in absurd (cc)
one_read ls a b (read s is d g) (long_head k) = absurd (omega (arith, k, s))
one_read ls a b (read {version = v} {steps = n} s is d g) (no_head t none) = absurd (none v n is)
one_read ls a b (read s is d g) (open_head t is' d') = let never : false ≡ true = sym d' ∙ d in absurd (cc)
one_read ls a b (read {version = v} {steps = n} {answer = x} s is d g) (read {version = w} {steps = m} {answer = y} t is' d' g') =
    let same = one_head (first_text ls) v w n m is is' in
    let other : Give v n 2 0 (behind_first ls) y = subst (λ u. Give u n 2 0 (behind_first ls) y) (sym same.0) (subst (λ k. Give w k 2 0 (behind_first ls) y) (sym same.1) g') in
    ap (λ k. book_from k x) same.1 ∙ ap (book_from m) (same_answer v n 2 0 (behind_first ls) x y g other)

pub one_answer : (bytes : List ℕ) (a b : Result BookTree (RuleFault × ℕ)) → IsAnswer bytes a → IsAnswer bytes b → a ≡ b
one_answer bytes = one_read (lines_of bytes)

-- ---- good rules

good_rule : {v : Version} {steps : ℕ} {l : Line} {rule : RuleTree} → IsProvedRule v steps l rule → IsGoodWithin steps rule
good_rule p = record { lawful = p.states.is_rule.lawful; within = p.states.is_rule.atoms.within; proved = p.proved }

good_given : (v : Version) (steps n count : ℕ) (ls : List Line) (a : Result (List RuleTree) (RuleFault × ℕ)) (rules : List RuleTree) → Give v steps n count ls a → a ≡ Ok rules → Each (IsGoodWithin steps) rules
good_given v steps n count [] a rules no_end is = absurd (cc)
good_given v steps n count (l ∷ ls) a rules (long_line h) is = absurd (cc)
good_given v steps n count (l ∷ ls) a rules (many_rules s e q) is = absurd (cc)
good_given v steps n count (l ∷ ls) a rules (bad_end s e w) is = absurd (cc)
good_given v steps n count (l ∷ ls) a rules (wrong_end s d st w) is = absurd (cc)
good_given v steps n count (l ∷ ls) a [] (the_end s d st) is = tt
good_given v steps n count (l ∷ ls) a (r ∷ rules) (the_end s d st) is = absurd (cc)
good_given v steps n count (l ∷ ls) a rules (bad_rule s e r f) is = absurd (cc)
good_given v steps n count (l ∷ ls) a [] (a_rule s e r p g) is = absurd (cc)
good_given v steps n count (l ∷ ls) a (x ∷ xs) (a_rule {rule = y} {rules = ys} s e r p g) is =
    let first : y ≡ x = cc in
    let rest : ys ≡ xs = cc in
    (subst (IsGoodWithin steps) first (good_rule p), good_given v steps (suc n) (suc count) ls (Ok ys) xs g (ap Ok rest))
good_given v steps n count (l ∷ ls) a rules (later_fault s e r p g) is = absurd (cc)

good_read : (ls : List Line) (a : Result BookTree (RuleFault × ℕ)) (book : BookTree) → AreRead ls a → a ≡ Ok book → Each (IsGoodWithin book.steps) book.rules
good_read ls a book (long_head h) is = absurd (cc)
good_read ls a book (no_head s none) is = absurd (cc)
good_read ls a book (open_head s is_head d) is = absurd (cc)
good_read ls a book (read {version = v} {steps = n} {answer = Ok rules} s is_head d g) is =
    let same : record { steps = n; rules = rules } ≡ book = cc in
    subst (λ (b : BookTree). Each (IsGoodWithin b.steps) b.rules) same (good_given v n 2 0 (behind_first ls) (Ok rules) rules g refl)
good_read ls a book (read {version = v} {steps = n} {answer = Err e} s is_head d g) is = absurd (cc)

pub good_rules : (bytes : List ℕ) (book : BookTree) → IsAnswer bytes (Ok book) → Each (IsGoodWithin book.steps) book.rules
good_rules bytes book is = good_read (lines_of bytes) (Ok book) book is refl

-- ---- few rules

few_given : (v : Version) (steps n count : ℕ) (ls : List Line) (a : Result (List RuleTree) (RuleFault × ℕ)) (rules : List RuleTree) → Give v steps n count ls a → a ≡ Ok rules → count ≤ 65536 → count + length rules ≤ 65536
few_given v steps n count [] a rules no_end is few = absurd (cc)
few_given v steps n count (l ∷ ls) a rules (long_line h) is few = absurd (cc)
few_given v steps n count (l ∷ ls) a rules (many_rules s e q) is few = absurd (cc)
few_given v steps n count (l ∷ ls) a rules (bad_end s e w) is few = absurd (cc)
few_given v steps n count (l ∷ ls) a rules (wrong_end s d st w) is few = absurd (cc)
few_given v steps n count (l ∷ ls) a [] (the_end s d st) is few = omega arith
few_given v steps n count (l ∷ ls) a (r ∷ rules) (the_end s d st) is few = absurd (cc)
few_given v steps n count (l ∷ ls) a rules (bad_rule s e r f) is few = absurd (cc)
few_given v steps n count (l ∷ ls) a [] (a_rule s e r p g) is few = omega arith
few_given v steps n count (l ∷ ls) a (x ∷ xs) (a_rule {rules = ys} s e r p g) is few =
    let rest : ys ≡ xs = cc in
    let more = few_given v steps (suc n) (suc count) ls (Ok ys) xs g (ap Ok rest) (omega (arith, r)) in
    omega arith
few_given v steps n count (l ∷ ls) a rules (later_fault s e r p g) is few = absurd (cc)

few_read : (ls : List Line) (a : Result BookTree (RuleFault × ℕ)) (book : BookTree) → AreRead ls a → a ≡ Ok book → length book.rules ≤ 65536
few_read ls a book (long_head h) is = absurd (cc)
few_read ls a book (no_head s none) is = absurd (cc)
few_read ls a book (open_head s is_head d) is = absurd (cc)
few_read ls a book (read {version = v} {steps = n} {answer = Ok rules} s is_head d g) is =
    let same : record { steps = n; rules = rules } ≡ book = cc in
    subst (λ (b : BookTree). length b.rules ≤ 65536) same (let few = few_given v n 2 0 (behind_first ls) (Ok rules) rules g refl (omega arith) in omega arith)
few_read ls a book (read {version = v} {steps = n} {answer = Err e} s is_head d g) is = absurd (cc)

pub few_rules : (bytes : List ℕ) (book : BookTree) → IsAnswer bytes (Ok book) → length book.rules ≤ 65536
few_rules bytes book is = few_read (lines_of bytes) (Ok book) book is refl
