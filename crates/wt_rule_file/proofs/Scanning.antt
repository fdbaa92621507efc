-- Heads, end lines and lines by their places.
use Rattle.std.proofs.Common.{◌≡◌, ℕ, suc, ◌+◌, ◌-◌, ◌<◌, ◌≤◌, Bool, true, false, List, [], ◌∷◌, ◌++◌, length, take, drop, Some, None, refl, sym, ap, subst, ◌∙◌, inl, inr, arith, append-nil, length-drop, length-append}
use Rattle.std.specs.Prelude.{◌==◌, ◌&&◌, nat_le, codes, if◌then◌else◌, IsTrue, MatchOption, is_some}
use Rattle.std.specs.declared.option.Option.{Option}
use Rattle.std.proofs.lemmas.Bool.{cases_eq}
use Rattle.std.proofs.lemmas.Grind.{common_steps}
use Rattle.std.proofs.lemmas.Option.{same_Some}
use Rattle.std.proofs.lemmas.List.{drop_all, take_all, drop-drop}
use Rattle.wt_rule_text.specs.declared.parsed.Version.{Version}
use Rattle.wt_rule_text.specs.declared.parsed.Version.TheVariants.{One, Two}
use Rattle.wt_rule_text.specs.Forms.{IsNumber}
use Rattle.wt_rule_text.specs.Reading.{after, number}
use Rattle.wt_rule_text.proofs.Spans.{Span, ends, spanned, after_some, after_none, after_is, bind_some, first_some, made}
use Rattle.wt_rule_text.proofs.Numerals.{number_some, number_is}
use Rattle.wt_rule_file.specs.declared.head.Head.{Head}
use Rattle.wt_rule_file.specs.Files.{put_before, lines_of, version_text, IsHead, Ends, StatesCount}
use Rattle.wt_rule_file.specs.Reading.{until_lf, IsLineAt, last_number, steps_at, head_with, stated_head, end_number}

-- ---- texts that end with a number

same : (n : ℕ) → (n == n) ≡ true
same n = grind (arith, common_steps)

if_same : {A : Type 0} (n m : ℕ) (x y : A) → (if n == m then Some x else None) ≡ Some y → (n ≡ m) × (Some x ≡ Some y)
if_same n m x y is =
    elim (cases_eq n m) [
      | inl e ↦ (e, let t : (n == m) ≡ true = grind (arith, common_steps) in sym (ap (λ b. if b then Some x else None) t) ∙ is)
      | inr ne ↦ let f : (n == m) ≡ false = grind (arith, common_steps) in let none : None ≡ Some y = sym (ap (λ b. if b then Some x else None) f) ∙ is in absurd (cc)
    ]

at_end : (text : List ℕ) → drop (length text) text ≡ []
at_end text = drop_all (length text) text (omega arith)

-- a word, and what stands behind it up to the end
parted : (text word rest : List ℕ) → text ≡ word ++ rest → Span text 0 word (length word) × Span text (length word) rest (length text)
parted text word rest is =
    let (here, behind) = spanned text 0 word rest is in
    let place : 0 + length word ≡ length word = omega arith in (
      subst (Span text 0 word) place here,
      record {
        is = ap (λ n. drop n text) (sym place) ∙ behind ∙ sym (append-nil rest) ∙ ap (λ t. rest ++ t) (sym (at_end text));
        place = omega (arith, ap length is, length-append word rest);
      },
    )

joined : (text word rest : List ℕ) (at : ℕ) → Span text 0 word at → Span text at rest (length text) → text ≡ word ++ rest
joined text word rest at here behind =
    here.is ∙ ap (λ t. word ++ t) (behind.is ∙ ap (λ t. rest ++ t) (at_end text) ∙ append-nil rest)

last_some : (text : List ℕ) (at n : ℕ) (digits : List ℕ) → IsNumber n digits → Span text at digits (length text) → last_number text at ≡ Some n
last_some text at n digits is span =
    rw (number_some text at n digits (length text) is span (ap ends (at_end text))) (ap (λ b. if b then Some n else None) (same (length text)))

last_is : (text : List ℕ) (at n : ℕ) → last_number text at ≡ Some n → (digits : List ℕ) × IsNumber n digits × Span text at digits (length text)
last_is text at n is =
    let (p, there, r1) = bind_some (number text at) _ n is in
    let (place, found) = if_same p.1 (length text) p.0 n r1 in
    let (digits, is_number, span, _) = number_is text at p.0 p.1 there in
    made (λ k. (digits : List ℕ) × IsNumber k digits × Span text at digits (length text)) p.0 n found (digits, is_number, subst (Span text at digits) place span)

-- ---- end lines

end_by : (text : List ℕ) (o : Option ℕ) → after text 0 (codes "end ") ≡ o → (IsTrue (is_some o) → Ends text) × (Ends text → IsTrue (is_some o))
end_by text (Some n) is = (λ _. (drop n text, (after_is text 0 (codes "end ") n is).is), λ _. refl)
end_by text None is = (
  λ h. absurd (cc),
  λ e. let some = after_some text 0 (codes "end ") _ (parted text (codes "end ") e.0 e.1).0 in absurd (cc),
)

pub end_tells : (text : List ℕ) (o : Option ℕ) (b : Bool) → o ≡ after text 0 (codes "end ") → b ≡ is_some o → (IsTrue b → Ends text) × (Ends text → IsTrue b)
end_tells text o b is test = subst (λ y. (IsTrue y → Ends text) × (Ends text → IsTrue y)) (sym test) (end_by text o (sym is))

count_some : (text : List ℕ) (m : ℕ) → StatesCount m text → end_number text ≡ Some m
unfolding end_number
count_some text m (digits, is_number, is) =
    let (here, behind) = parted text (codes "end ") digits is in
    rw (after_some text 0 (codes "end ") _ here) (last_some text _ m digits is_number behind)

count_is : (text : List ℕ) (m : ℕ) → end_number text ≡ Some m → StatesCount m text
unfolding end_number
count_is text m is =
    let (at, word, r1) = bind_some (after text 0 (codes "end ")) _ m is in
    let (digits, is_number, span) = last_is text at m r1 in
    (digits, is_number, joined text (codes "end ") digits at (after_is text 0 (codes "end ") at word) span)

pub count_tells : (text : List ℕ) (o : Option ℕ) → o ≡ end_number text → MatchOption o ((m : ℕ) → StatesCount m text → ⊥) (λ m. StatesCount m text)
count_tells text None is = λ m states. let some = count_some text m states in absurd (cc)
count_tells text (Some m) is = count_is text m (sym is)

-- ---- heads

steps_some : (text : List ℕ) (at n : ℕ) (digits : List ℕ) → IsNumber n digits → 1 ≤ n → n ≤ 16 → Span text at digits (length text) → steps_at text at ≡ Some n
steps_some text at n digits is some few span =
    let test : (nat_le 1 n && nat_le n 16) ≡ true = grind (arith, common_steps) in
    rw (last_some text at n digits is span) (ap (λ b. if b then Some n else None) test)

if_both : (b : Bool) (n m : ℕ) → (if b then Some n else None) ≡ Some m → (b ≡ true) × (Some n ≡ Some m)
if_both true n m is = (refl, is)
if_both false n m is = absurd (cc)

bounds : (n : ℕ) → (nat_le 1 n && nat_le n 16) ≡ true → (1 ≤ n) × (n ≤ 16)
bounds n h = (grind (arith, common_steps), grind (arith, common_steps))

steps_is : (text : List ℕ) (at n : ℕ) → steps_at text at ≡ Some n → (digits : List ℕ) × IsNumber n digits × Span text at digits (length text) × (1 ≤ n) × (n ≤ 16)
steps_is text at n is =
    let (m, there, r1) = bind_some (last_number text at) _ n is in
    let (test, found) = if_both (nat_le 1 m && nat_le m 16) m n r1 in
    let (digits, is_number, span) = last_is text at m there in
    let (some, few) = bounds m test in
    made (λ k. (digits : List ℕ) × IsNumber k digits × Span text at digits (length text) × (1 ≤ k) × (k ≤ 16)) m n found (digits, is_number, span, some, few)

with_some : (version : Version) (text : List ℕ) (n : ℕ) (is : IsHead version n text) (at : ℕ) → Span text at is.digits (length text) → head_with version text at ≡ Some (record { version = version; steps = n })
with_some version text n is at span = rw (steps_some text at n is.digits is.number is.some is.few span) refl

with_is : (version : Version) (text : List ℕ) (at : ℕ) (h : Head) → Span text 0 (version_text version) at → head_with version text at ≡ Some h → IsHead h.version h.steps text
with_is version text at h here is =
    let (n, there, r1) = bind_some (steps_at text at) _ h is in
    let (digits, is_number, span, some, few) = steps_is text at n there in
    made (λ (h : Head). IsHead h.version h.steps text) (record { version = version; steps = n }) h r1
    (record { digits = digits; number = is_number; some = some; few = few; is = joined text (version_text version) digits at here span })

head_some : (version : Version) (n : ℕ) (text : List ℕ) → IsHead version n text → stated_head text ≡ Some (record { version = version; steps = n })
unfolding stated_head
head_some One n text is =
    let (here, behind) = parted text (codes "wetune-rules 1 steps=") is.digits is.is in
    rw (after_some text 0 (codes "wetune-rules 1 steps=") _ here) (with_some One text n is _ behind)
head_some Two n text is =
    let (here, behind) = parted text (codes "wetune-rules 2 steps=") is.digits is.is in
    rw (after_none text 0 (codes "wetune-rules 1 steps=") (codes "wetune-rules 2 steps=" ++ is.digits) is.is refl, after_some text 0 (codes "wetune-rules 2 steps=") _ here) (with_some Two text n is _ behind)

head_is : (text : List ℕ) (h : Head) → stated_head text ≡ Some h → IsHead h.version h.steps text
unfolding stated_head
head_is text h is =
    elim (first_some (after text 0 (codes "wetune-rules 1 steps=")) _ _ h is) [
      | inl (at, word, r1) ↦ with_is One text at h (after_is text 0 (codes "wetune-rules 1 steps=") at word) r1
      | inr rest ↦
          let (at, word, r1) = bind_some (after text 0 (codes "wetune-rules 2 steps=")) _ h rest in
          with_is Two text at h (after_is text 0 (codes "wetune-rules 2 steps=") at word) r1
    ]

pub head_tells : (text : List ℕ) (o : Option Head) → o ≡ stated_head text → MatchOption o ((version : Version) (steps : ℕ) → IsHead version steps text → ⊥) (λ h. IsHead h.version h.steps text)
head_tells text None is = λ version steps head. let some = head_some version steps text head in absurd (cc)
head_tells text (Some h) is = head_is text h (sym is)

heads : (a b : Head) → Some a ≡ Some b → a ≡ b
heads a b is = same_Some a b is

pub one_head : (text : List ℕ) (v w : Version) (n m : ℕ) → IsHead v n text → IsHead w m text → (v ≡ w) × (n ≡ m)
one_head text v w n m a b =
    let some_a = head_some v n text a in
    let some_b = head_some w m text b in
    let same_head : record { version = v; steps = n } ≡ record { version = w; steps = m } = heads (record { version = v; steps = n }) (record { version = w; steps = m }) (sym some_a ∙ some_b) in
    (ap (λ (h : Head). h.version) same_head, ap (λ (h : Head). h.steps) same_head)

pub one_count : (text : List ℕ) (m n : ℕ) → StatesCount m text → StatesCount n text → m ≡ n
one_count text m n a b = let some_a = count_some text m a in let some_b = count_some text n b in cc

-- ---- lines

ended_by : (y : Bool) (b : ℕ) (bs : List ℕ) → (b == 10) ≡ y → until_lf (b ∷ bs) < length (b ∷ bs) →
    (until_lf bs < length bs → lines_of bs ≡ record { text = take (until_lf bs) bs; ended = true } ∷ lines_of (drop (until_lf bs + 1) bs)) →
    lines_of (b ∷ bs) ≡ record { text = take (until_lf (b ∷ bs)) (b ∷ bs); ended = true } ∷ lines_of (drop (until_lf (b ∷ bs) + 1) (b ∷ bs))
ended_by true b bs test l rest =
    let k : until_lf (b ∷ bs) ≡ 0 = ap (λ y. if y then 0 else suc (until_lf bs)) test in
    ap (λ y. if y then record { text = []; ended = true } ∷ lines_of bs else put_before b (lines_of bs)) test
    ∙ ap (λ n. record { text = take n (b ∷ bs); ended = true } ∷ lines_of (drop (n + 1) (b ∷ bs))) (sym k)
ended_by false b bs test l rest =
    let k : until_lf (b ∷ bs) ≡ suc (until_lf bs) = ap (λ y. if y then 0 else suc (until_lf bs)) test in
    let e : suc (until_lf bs) + 1 ≡ suc (until_lf bs + 1) = omega arith in
    ap (λ y. if y then record { text = []; ended = true } ∷ lines_of bs else put_before b (lines_of bs)) test
    ∙ ap (put_before b) (rest (omega (arith, k)))
    ∙ ap (λ n. record { text = b ∷ take (until_lf bs) bs; ended = true } ∷ lines_of (drop n (b ∷ bs))) (sym e)
    ∙ ap (λ n. record { text = take n (b ∷ bs); ended = true } ∷ lines_of (drop (n + 1) (b ∷ bs))) (sym k)

open_by : (y : Bool) (b : ℕ) (bs : List ℕ) → (b == 10) ≡ y → length (b ∷ bs) ≤ until_lf (b ∷ bs) → (length bs ≤ until_lf bs → 0 < length bs → lines_of bs ≡ record { text = bs; ended = false } ∷ []) →
    lines_of (b ∷ bs) ≡ record { text = b ∷ bs; ended = false } ∷ []
open_by true b bs test l rest = let k : until_lf (b ∷ bs) ≡ 0 = ap (λ y. if y then 0 else suc (until_lf bs)) test in absurd (omega (arith, k))
open_by false b [] test l rest = ap (λ y. if y then record { text = []; ended = true } ∷ [] else put_before b []) test
open_by false b (c ∷ bs) test l rest =
    let k : until_lf (b ∷ c ∷ bs) ≡ suc (until_lf (c ∷ bs)) = ap (λ y. if y then 0 else suc (until_lf (c ∷ bs))) test in
    ap (λ y. if y then record { text = []; ended = true } ∷ lines_of (c ∷ bs) else put_before b (lines_of (c ∷ bs))) test ∙ ap (put_before b) (rest (omega (arith, k)) (omega arith))

lines_ended : (t : List ℕ) → until_lf t < length t → lines_of t ≡ record { text = take (until_lf t) t; ended = true } ∷ lines_of (drop (until_lf t + 1) t)
lines_ended [] l = absurd (omega arith)
lines_ended (b ∷ bs) l = ended_by (b == 10) b bs refl l (λ h. lines_ended bs h)

lines_open : (t : List ℕ) → length t ≤ until_lf t → 0 < length t → lines_of t ≡ record { text = t; ended = false } ∷ []
lines_open [] l some = absurd (omega arith)
lines_open (b ∷ bs) l some = open_by (b == 10) b bs refl l (λ h k. lines_open bs h k)

pub until-le : (t : List ℕ) → until_lf t ≤ length t
until-le [] = omega arith
until-le (b ∷ bs) = elim (b == 10) as (λ y. (if y then 0 else suc (until_lf bs)) ≤ length (b ∷ bs)) [ true ↦ omega arith | false ↦ omega (arith, until-le bs) ]

empty_list : (t : List ℕ) → length t ≡ 0 → t ≡ []
empty_list [] h = refl
empty_list (b ∷ bs) h = absurd (omega arith)

pub none_left : (bytes : List ℕ) (at : ℕ) → length (drop at bytes) ≡ 0 → lines_of (drop at bytes) ≡ []
none_left bytes at empty = ap lines_of (empty_list (drop at bytes) empty)

pub ended_line : (bytes : List ℕ) (at k : ℕ) → k ≡ until_lf (drop at bytes) → k < length (drop at bytes) → IsLineAt bytes at (record { end = at + k; next = at + k + 1; ended = true })
ended_line bytes at k is l =
    let count = length-drop at bytes in
    let line = lines_ended (drop at bytes) (subst (λ n. n < length (drop at bytes)) is l) in
    let cut : at + k - at ≡ k = omega arith in
    let place : at + (k + 1) ≡ at + k + 1 = omega arith in
    record {
      begins = omega arith;
      ends = omega (arith, count);
      further = omega arith;
      within = omega (arith, count);
      first = line ∙ ap (λ n. record { text = take n (drop at bytes); ended = true } ∷ lines_of (drop (n + 1) (drop at bytes))) (sym is)
          ∙ ap (λ t. record { text = take k (drop at bytes); ended = true } ∷ lines_of t) (drop-drop (k + 1) at bytes ∙ ap (λ n. drop n bytes) place)
          ∙ ap (λ n. record { text = take n (drop at bytes); ended = true } ∷ lines_of (drop (at + k + 1) bytes)) (sym cut);
    }

pub open_line : (bytes : List ℕ) (at k : ℕ) → k ≡ until_lf (drop at bytes) → length (drop at bytes) ≤ k → 0 < length (drop at bytes) → IsLineAt bytes at (record { end = at + k; next = at + k; ended = false })
open_line bytes at k is l some =
    let count = length-drop at bytes in
    let le = until-le (drop at bytes) in
    let line = lines_open (drop at bytes) (subst (λ n. length (drop at bytes) ≤ n) is l) some in
    let cut : at + k - at ≡ k = omega arith in
    let whole : take (at + k - at) (drop at bytes) ≡ drop at bytes = take_all (at + k - at) (drop at bytes) (omega arith) in
    let nothing : drop (at + k) bytes ≡ [] = drop_all (at + k) bytes (omega (arith, count)) in
    record {
      begins = omega arith;
      ends = omega (arith, count, le, is);
      further = omega (arith, some);
      within = omega (arith, count, le, is);
      first = line ∙ ap (λ t. record { text = t; ended = false } ∷ []) (sym whole) ∙ ap (λ t. record { text = take (at + k - at) (drop at bytes); ended = false } ∷ lines_of t) (sym nothing);
    }
