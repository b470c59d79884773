-- What the blanks at both ends leave.
use Rattle.std.proofs.Common.{◌≡◌, ℕ, ◌+◌, ◌-◌, ◌<◌, ◌≤◌, Bool, true, false, not, List, [], ◌∷◌, ◌++◌, length, take, drop, get_or, reverse, refl, ap, sym, ◌∙◌, arith, append_assoc, length-append, length-drop}
use Rattle.std.specs.List.{list_all, position_or_len, suffix_len}
use Rattle.std.proofs.lemmas.List.{take-append-drop, length-take, length-reverse, get_or-take, get_or-drop, get_or-reverse}
use Rattle.std.proofs.lemmas.List.Sums.{prefix_len_passes, prefix_len_stops, suffix_len-le-length, list_all-from_AllPass}
use Rattle.std.proofs.Math.Seq.{get_or-append_seam}
use Rattle.sdc_base.specs.Blanks.{is_blank, is_dark, trim_front, trim_back, trim, IsTrimmed}

no-dark : (t : Bool) → not (not t) ≡ true → t ≡ true
no-dark true e = refl
no-dark false e = e

no-blank : (t : Bool) → not (not t) ≡ false → t ≡ false
no-blank true e = e
no-blank false e = refl

blanks-front : (bytes : List ℕ) → list_all is_blank (take (position_or_len is_dark bytes) bytes) ≡ true
blanks-front bytes =
    list_all-from_AllPass is_blank (take (position_or_len is_dark bytes) bytes)
    (λ k d below.
    let short : k < position_or_len is_dark bytes = omega (arith, length-take (position_or_len is_dark bytes) bytes) in
    rw get_or-take (no-dark _ (prefix_len_passes (λ b. not (is_dark b)) bytes k d short)))

first-dark : (bytes : List ℕ) (b : ℕ) (rest : List ℕ) → trim_front bytes ≡ b ∷ rest → is_blank b ≡ false
first-dark bytes b rest e =
    let some : position_or_len is_dark bytes < length bytes = omega (arith, length-drop (position_or_len is_dark bytes) bytes, ap length e) in
    let there : get_or bytes (position_or_len is_dark bytes) 0 ≡ b =
    (let same : position_or_len is_dark bytes + 0 ≡ position_or_len is_dark bytes = omega arith in ap (λ i. get_or bytes i 0) (sym same))
    ∙ sym (get_or-drop (position_or_len is_dark bytes) bytes 0 0)
    ∙ ap (λ front. get_or front 0 0) e in
    ap is_blank (sym there) ∙ no-blank _ (prefix_len_stops (λ b. not (is_dark b)) bytes 0 some)

-- the place of the byte that stands so far from the end
from-end : (bytes : List ℕ) (k d : ℕ) → k < length bytes → get_or (reverse bytes) (length bytes - 1 - k) d ≡ get_or bytes k d
from-end bytes k d below =
    get_or-reverse bytes (length bytes - 1 - k) d (omega arith)
    ∙ (let same : length bytes - 1 - (length bytes - 1 - k) ≡ k = omega arith in ap (λ i. get_or bytes i d) same)

last-dark : (bytes rest : List ℕ) (b : ℕ) → trim_back bytes ≡ rest ++ b ∷ [] → is_blank b ≡ false
last-dark bytes rest b e =
    let s_le : suffix_len is_blank bytes ≤ length bytes = suffix_len-le-length is_blank bytes in
    let long : length bytes - suffix_len is_blank bytes ≡ length rest + 1 =
    omega (arith, s_le, length-take (length bytes - suffix_len is_blank bytes) bytes, ap length e, length-append rest (b ∷ [])) in
    let place : suffix_len is_blank bytes ≡ length bytes - 1 - length rest = omega (arith, s_le, long) in
    let there : get_or (reverse bytes) (suffix_len is_blank bytes) 0 ≡ b =
    ap (λ i. get_or (reverse bytes) i 0) place
    ∙ from-end bytes (length rest) 0 (omega (arith, s_le, long))
    ∙ sym (get_or-take (length bytes - suffix_len is_blank bytes) bytes (length rest) 0 (omega (arith, long)))
    ∙ ap (λ front. get_or front (length rest) 0) e
    ∙ get_or-append_seam rest b [] 0 in
    ap is_blank (sym there) ∙ prefix_len_stops is_blank (reverse bytes) 0 (omega (arith, s_le, long, length-reverse bytes))

blanks-back : (bytes : List ℕ) → list_all is_blank (drop (length bytes - suffix_len is_blank bytes) bytes) ≡ true
blanks-back bytes = list_all-from_AllPass is_blank (drop (length bytes - suffix_len is_blank bytes) bytes)
    (λ k d below.
    let s_le : suffix_len is_blank bytes ≤ length bytes = suffix_len-le-length is_blank bytes in
    let inside : (length bytes - suffix_len is_blank bytes) + k < length bytes = omega (arith, s_le, length-drop (length bytes - suffix_len is_blank bytes) bytes) in
    let early : length bytes - 1 - ((length bytes - suffix_len is_blank bytes) + k) < suffix_len is_blank bytes = omega (arith, s_le, inside) in
    let there : get_or (drop (length bytes - suffix_len is_blank bytes) bytes) k d ≡ get_or (reverse bytes) (length bytes - 1 - ((length bytes - suffix_len is_blank bytes) + k)) d =
    get_or-drop (length bytes - suffix_len is_blank bytes) bytes k d
    ∙ sym (from-end bytes ((length bytes - suffix_len is_blank bytes) + k) d inside) in
    ap is_blank there ∙ prefix_len_passes is_blank (reverse bytes) (length bytes - 1 - ((length bytes - suffix_len is_blank bytes) + k)) d early)

pub trimmed : (bytes : List ℕ) → IsTrimmed bytes (trim bytes)
trimmed bytes = record {
  before = take (position_or_len is_dark bytes) bytes;
  behind = drop (length (trim_front bytes) - suffix_len is_blank (trim_front bytes)) (trim_front bytes);
  cut =
      sym (take-append-drop (position_or_len is_dark bytes) bytes)
      ∙ ap (λ front. take (position_or_len is_dark bytes) bytes ++ front)
      (sym (take-append-drop (length (trim_front bytes) - suffix_len is_blank (trim_front bytes)) (trim_front bytes)))
      ∙ sym (append_assoc (take (position_or_len is_dark bytes) bytes) (trim bytes) (drop (length (trim_front bytes) - suffix_len is_blank (trim_front bytes)) (trim_front bytes)));
  blanks_before = blanks-front bytes;
  blanks_behind = blanks-back (trim_front bytes);
  dark_first = λ b rest e.
      first-dark bytes b (rest ++ drop (length (trim_front bytes) - suffix_len is_blank (trim_front bytes)) (trim_front bytes))
      (sym (take-append-drop (length (trim_front bytes) - suffix_len is_blank (trim_front bytes)) (trim_front bytes))
      ∙ ap (λ (front : List ℕ). front ++ drop (length (trim_front bytes) - suffix_len is_blank (trim_front bytes)) (trim_front bytes)) e);
  dark_last = λ rest b e. last-dark (trim_front bytes) rest b e;
}
