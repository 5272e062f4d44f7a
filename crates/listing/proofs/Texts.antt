-- Laws of text: one text after another, a text of which a part is left, and the digits of a number.
-- Assumes nothing.
use Prim.Native.Nat.{ℕ, zero, suc, ◌+◌, ◌/◌, ◌%◌, ◌≤◌, ◌<◌, zero-le}
use native.Mathlib.Nat.{mod-eq_of_lt}
use native.Mathlib.Numerals.{add-one}
use native.Mathlib.Omega.{arith}
use mathlib.Core.Path.{◌≡◌, refl, sym, ap, subst, ◌∙◌}
use mathlib.Core.Bool.{Bool, true, false}
use mathlib.Core.List.{List, [], ◌∷◌, ◌++◌, append_assoc, append-nil}
use lib.Dec.{ltb}
use lib.ListN.{length, take, drop, set, get_or, length-set}
use lib.Seq.{drop-cons, take-suc-set}
use borrow.Author.Tests.{lt-ltb, le-ltb, ltb-true, ltb-false}
use Rattle.listing.specs.declared.Text.{Text}
use Rattle.listing.specs.HowAdded.{shown, Adds}
use Rattle.listing.specs.Text.{digits, decimal, Buffer, put, put_text}

pub written_append : (b : Buffer) (xs ys : List ℕ) → put_text b (xs ++ ys) ≡ put_text (put_text b xs) ys
unfolding put_text
written_append b [] ys = refl
written_append b (x ∷ xs) ys = written_append (put b x) xs ys

-- One text added after another.
pub both : {t t' t'' : Text} {xs ys : List ℕ} → Adds t xs t' → Adds t' ys t'' → Adds t (xs ++ ys) t''
both {t} {xs = xs} {ys = ys} first second = record {
  same = second.same ∙ first.same;
  text = second.text ∙ ap (λ (b : Buffer). put_text b ys) first.text ∙ sym (written_append (shown t) xs ys);
}

-- A field and what comes after it.
pub field_then : {t t' t'' : Text} (n e : ℕ) (rest : List ℕ) → Adds t (decimal n ++ (e ∷ [])) t' → Adds t' rest t'' → Adds t (decimal n ++ (e ∷ rest)) t''
field_then {t} {t'' = t''} n e rest first second =
    subst (λ (xs : List ℕ). Adds t xs t'') (append_assoc (decimal n) (e ∷ []) rest) (both first second)

-- A text that is being added, with what is left of it.
pub record Leaves (start : Text) (whole : List ℕ) (t : Text) (rest : List ℕ) : Type 0 where
  pub same : t.bytes.ghost_name ≡ start.bytes.ghost_name
  pub text : put_text (shown t) rest ≡ put_text (shown start) whole

pub more : {start t t' : Text} {whole rest : List ℕ} (part rest' : List ℕ) → Leaves start whole t rest → Adds t part t' → rest ≡ part ++ rest' → Leaves start whole t' rest'
more {t = t} part rest' left added e = record {
  same = added.same ∙ left.same;
  text =
      ap (λ (b : Buffer). put_text b rest') added.text
      ∙ sym (written_append (shown t) part rest')
      ∙ ap (put_text (shown t)) (sym e)
      ∙ left.text;
}

pub all_added : {start t : Text} {whole rest : List ℕ} → Leaves start whole t rest → rest ≡ [] → Adds start whole t
unfolding put_text
all_added {t = t} left e = record { same = left.same; text = ap (put_text (shown t)) (sym e) ∙ left.text }

-- A text ends within the buffer.
put-within : (b : Buffer) (x : ℕ) → b.at ≤ length b.bytes → (put b x).at ≤ length (put b x).bytes
put-within b x h = by_room (ltb b.at (length b.bytes)) refl where
  by_room : (t : Bool) → ltb b.at (length b.bytes) ≡ t → (put b x).at ≤ length (put b x).bytes
  by_room true e = let room = ltb-true b.at (length b.bytes) e in rw (e, length-set) (omega arith)
  by_room false e = rw e h

written_within : (xs : List ℕ) (b : Buffer) → b.at ≤ length b.bytes → (put_text b xs).at ≤ length (put_text b xs).bytes
unfolding put_text
written_within [] b h = h
written_within (x ∷ xs) b h = written_within xs (put b x) (put-within b x h)

-- A text for which there is room is written whole.
written_whole : (xs : List ℕ) (b : Buffer) → b.at + length xs ≤ length b.bytes → take (put_text b xs).at (put_text b xs).bytes ≡ take b.at b.bytes ++ xs
unfolding put_text
written_whole [] b h = sym (append-nil (take b.at b.bytes))
written_whole (x ∷ xs) b h =
    let room : b.at < length b.bytes = omega arith in
    let next : Buffer = record { bytes = set b.bytes b.at x; at = b.at + 1 } in
    let one : take (b.at + 1) (set b.bytes b.at x) ≡ take b.at b.bytes ++ (x ∷ []) = rw (add-one b.at) (take-suc-set b.bytes b.at x room) in
    let goes : put b x ≡ next = rw (lt-ltb _ _ room) in
    ap (λ (w : Buffer). take (put_text w xs).at (put_text w xs).bytes) goes
    ∙ written_whole xs next (rw length-set (omega arith))
    ∙ ap (λ (l : List ℕ). l ++ xs) one
    ∙ append_assoc (take b.at b.bytes) (x ∷ []) xs

pub ends : (d xs : List ℕ) (z : Buffer) → z ≡ put_text (record { bytes = d; at = 0 }) xs
    → (z.at ≤ length z.bytes) × (length xs ≤ length d → take z.at z.bytes ≡ xs)
ends d xs z e =
    (rw e (written_within xs (record { bytes = d; at = 0 }) zero-le), λ room. rw e (written_whole xs (record { bytes = d; at = 0 }) (omega arith)))

-- A text from byte i on.
pub byte_first : (text : List ℕ) (i : ℕ) → i < length text → drop i text ≡ (get_or text i 0 ∷ []) ++ drop (i + 1) text
byte_first text i l = drop-cons text i 0 l ∙ ap (λ (k : ℕ). get_or text i 0 ∷ drop k text) (sym (add-one i))

-- The bound on the digits does not matter, where it is above the number.
same_digits : (f g n : ℕ) → n < f → n < g → digits f n ≡ digits g n
unfolding digits
same_digits zero g n p q = absurd (omega arith)
same_digits (suc f) zero n p q = absurd (omega arith)
same_digits (suc f) (suc g) n p q = by_test (ltb n 10) refl (same_digits f g (n / 10)) where
  by_test : (t : Bool) → ltb n 10 ≡ t → (n / 10 < f → n / 10 < g → digits f (n / 10) ≡ digits g (n / 10)) → digits (suc f) n ≡ digits (suc g) n
  by_test true e rest = rw e
  by_test false e rest =
      let large = ltb-false n 10 e in
      rw e (ap (λ (ds : List ℕ). ds ++ ((48 + n % 10) ∷ [])) (rest (omega arith) (omega arith)))

pub one_digit : (n : ℕ) → n < 10 → decimal n ≡ (48 + n % 10) ∷ []
unfolding decimal digits
one_digit n h = rw (lt-ltb _ _ h, mod-eq_of_lt h)

pub more-digits : (n : ℕ) → 10 ≤ n → decimal n ≡ decimal (n / 10) ++ ((48 + n % 10) ∷ [])
unfolding decimal digits
more-digits n h = rw (le-ltb _ _ h) (ap (λ (ds : List ℕ). ds ++ ((48 + n % 10) ∷ [])) (same_digits n (suc (n / 10)) (n / 10) (omega arith) (omega arith)))
