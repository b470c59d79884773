-- Draws, one after the other, and the line of a record that they give.
use Rattle.std.proofs.Common.{◌≡◌, ◌∙◌, ℕ, zero, suc, ◌+◌, ◌*◌, ◌<◌, ◌++◌, ◌∷◌, [], List, ap, refl, arith, sym, decimal, codes}
use Rattle.std.specs.List.{flat_map, range_with_len}
use Rattle.std.proofs.Math.Utf8.{encode}
use Rattle.std.proofs.lemmas.Str.{encode_ascii}
use Rattle.std.proofs.lemmas.List.{flat_map_more, map-id}
use Rattle.std.proofs.lemmas.List.FromFn.{map-range_with_len_more}
use Rattle.demo_files.specs.Draws.{next_state, state_after, draw_below}
use Rattle.demo_files.specs.Surveys.{filled_number, turnover, record_line, survey}

-- six draws
pub six-draws : (s a b c d e f : ℕ) → a ≡ next_state s → b ≡ next_state a → c ≡ next_state b → d ≡ next_state c → e ≡ next_state d → f ≡ next_state e → f ≡ state_after 6 s
six-draws s a b c d e f is_a is_b is_c is_d is_e is_f = is_f ∙ ap next_state (is_e ∙ ap next_state (is_d ∙ ap next_state (is_c ∙ ap next_state (is_b ∙ ap next_state is_a))))

-- draws behind draws
pub more-draws : (m n s : ℕ) → state_after m (state_after n s) ≡ state_after (m + n) s
more-draws zero n s = ap (λ k. state_after k s) (omega arith)
more-draws (suc m) n s =
    let is : suc m + n ≡ suc (m + n) = omega arith in
    ap next_state (more-draws m n s) ∙ sym (ap (λ k. state_after k s) is)

-- the text of a record's parts
parts : List ℕ → ℕ → ℕ → ℕ → List ℕ → List ℕ
parts region industry branch size places = codes "R" ++ (region ++ (industry ∷ decimal branch ++ (codes "S" ++ (decimal size ++ (places ++ 10 ∷ [])))))

-- a line whose parts are those of a record
pub line-is : (line region places : List ℕ) (letter branch size r i b n a t s : ℕ) → line ≡ codes "R" ++ (region ++ (encode letter ++ (decimal branch ++ (codes "S" ++ (decimal size ++ (places ++ 10 ∷ []))))))
    → region ≡ filled_number 48 2 (1 + draw_below 12 r) → letter ≡ 65 + draw_below 4 i → letter < 128 → branch ≡ 1 + draw_below 5 b → size ≡ 1 + draw_below 4 n → places ≡ filled_number 32 7 (turnover (draw_below 10000 a) (draw_below 20 t))
    → r ≡ state_after 1 s → i ≡ state_after 2 s → b ≡ state_after 3 s → n ≡ state_after 4 s → a ≡ state_after 5 s → t ≡ state_after 6 s
    → line ≡ record_line s
line-is line region places letter branch size r i b n a t s is is_region is_letter ascii is_branch is_size is_places r_is i_is b_is n_is a_is t_is =
    is ∙ rw (encode_ascii letter ascii, is_region, is_letter, is_branch, is_size, is_places, r_is, i_is, b_is, n_is, a_is, t_is) refl

-- the numbers up to one more
numbers-more : (n : ℕ) → range_with_len 0 (n + 1) ≡ range_with_len 0 n ++ n ∷ []
numbers-more n = sym (map-id (range_with_len 0 (n + 1))) ∙ map-range_with_len_more (λ (k : ℕ). k) 0 n n (omega arith) ∙ ap (λ (ks : List ℕ). ks ++ n ∷ []) (map-id (range_with_len 0 n))

-- the lines of a record more
pub more-records : (seed number : ℕ) (text new : List ℕ) (state after : ℕ) → text ≡ survey seed number → state ≡ state_after (number * 6) seed → new ≡ text ++ record_line state → after ≡ state_after 6 state
    → (new ≡ survey seed (number + 1)) × (after ≡ state_after ((number + 1) * 6) seed)
more-records seed number text new state after is_text is_state is_new is_after =
    let six : 6 + number * 6 ≡ (number + 1) * 6 = omega arith in
    let line : ℕ → List ℕ = λ k. record_line (state_after (k * 6) seed) in (
      is_new ∙ ap (λ (before : List ℕ). before ++ record_line state) is_text ∙ ap (λ s. survey seed number ++ record_line s) is_state ∙ flat_map_more line [] (range_with_len 0 number) number ∙ sym (ap (flat_map line) (numbers-more number)),
      is_after ∙ ap (state_after 6) is_state ∙ more-draws 6 (number * 6) seed ∙ ap (λ n. state_after n seed) six,
    )
