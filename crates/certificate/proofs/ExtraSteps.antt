-- The lines of extra cells, read and appended one after the other.
use Rattle.std.proofs.Common.{◌≡◌, ℕ, ◌+◌, ◌<◌, ◌==◌, not, true, false, cond, List, [], ◌∷◌, ◌++◌, length, map, flat_map, Ok, Err, refl, ap, sym, ◌∙◌, arith, append_assoc, decimal}
use Rattle.std.specs.Prelude.{codes}
use Rattle.std.specs.List.{before_first, onto_first}
use Rattle.std.specs.Str.{bytes_eq}
use Rattle.sdc_base.specs.Forms.{Term}
use Rattle.sdc_base.specs.Steps.{refuse}
use Rattle.certificate.specs.declared.faults.CertWhy.TheVariants.{Version}
use Rattle.certificate.specs.declared.extra.Extra.{Extra}
use Rattle.certificate.specs.Remainder.{Remainder}
use Rattle.certificate.specs.Pieces.{pieces}
use Rattle.certificate.specs.Texts.{pair_token, line_text}
use Rattle.certificate.specs.Certificates.{next_line}
use Rattle.certificate.specs.ExtraReadings.{contributors_line, begins_with_line, heading_fault, heading_at}
use Rattle.certificate.specs.ExtraTexts.{cells_tokens, need_tokens, guard_tokens, extra_text}
use Rattle.certificate.proofs.AppendSteps.{join_marked, cons_append, nil_append, more, more_by}
use Rattle.certificate.proofs.LineLaws.{not-false}
use Rattle.certificate.proofs.PieceLaws.{equal_bytes}
use Rattle.certificate.proofs.PieceList.{piece_head}
use Rattle.certificate.proofs.TokenLaws.{bind_ok, ok_same, not_refused}

-- ---- the first line

pub heading_by_head : (heading bytes : List ℕ) → begins_with_line heading (pieces 10 bytes) ≡ bytes_eq (before_first (λ b. b == 10) bytes) heading
heading_by_head heading bytes = let head = piece_head 10 bytes in rw head.1 refl

heading-fault-more : (bytes : List ℕ) → 0 < length bytes → heading_fault (pieces 10 bytes) ≡ Version
heading-fault-more [] some = absurd (omega (arith, some))
heading-fault-more (b ∷ bytes) some =
    let head = piece_head 10 bytes in
    elim (b == 10) as (λ t. heading_fault (cond t ([] ∷ pieces 10 bytes) (onto_first b (pieces 10 bytes))) ≡ Version) [
      | true ↦ rw head.1 refl
      | false ↦ rw head.1 refl
    ]

pub heading_strange : (heading bytes : List ℕ) → 0 < length bytes → begins_with_line heading (pieces 10 bytes) ≡ false → heading_at heading (pieces 10 bytes) ≡ Err (1, Version)
unfolding heading_at
heading_strange heading bytes some other = rw (other, heading-fault-more bytes some) refl

pub heading_again : (line : List ℕ) (lines : List (List ℕ)) → heading_at contributors_line (contributors_line ∷ line ∷ lines) ≡ Ok (record { given = 1; lines = line ∷ lines })
unfolding heading_at
heading_again line lines = refl

pub heading_text : (heading : List ℕ) (lines : List (List ℕ)) (left : Remainder) → heading_at heading lines ≡ Ok left → lines ≡ heading ∷ left.lines
unfolding heading_at
heading_text heading lines left h =
    let a = bind_ok (refuse (1, heading_fault lines) (not (begins_with_line heading lines))) _ left h in
    let b = bind_ok (next_line 0 lines) _ left a.2 in
    first-and-rest lines b.0 (not-false (begins_with_line heading lines) (not_refused (1, heading_fault lines) (not (begins_with_line heading lines)) a.0 a.1)) b.1 ∙ ap (λ (l : Remainder). heading ∷ l.lines) (ok_same b.0.1 left b.2)
  where
    first-and-rest : (lines : List (List ℕ)) (p : List ℕ × Remainder) → begins_with_line heading lines ≡ true → next_line 0 lines ≡ Ok p → lines ≡ heading ∷ p.1.lines
    first-and-rest [] p first next = absurd cc
    first-and-rest (line ∷ []) p first next = absurd cc
    first-and-rest (line ∷ second ∷ lines) p first next =
        let same : ◌≡◌ {A = List ℕ × Remainder} (line, record { given = 0 + 1; lines = second ∷ lines }) p = ok_same (line, record { given = 0 + 1; lines = second ∷ lines }) p next in
        ap (λ (l : List ℕ). l ∷ second ∷ lines) (equal_bytes line heading first) ∙ ap (λ (q : List ℕ × Remainder). heading ∷ q.1.lines) same

-- ---- lines that are appended

pub cells_appended : (text cells : List ℕ) → 0 < length cells → ((text ++ codes "extra") ++ flat_map (λ n. 32 ∷ decimal n) cells) ++ 10 ∷ [] ≡ text ++ flat_map line_text (cells_tokens cells)
cells_appended text [] some = absurd (omega (arith, some))
cells_appended text (cell ∷ cells) some = rw (join_marked 32 decimal (decimal cell) cells) (simp append_assoc)

pub need_appended : (text word subject row cell side den : List ℕ) (terms : List Term)
    → ((((text ++ (word ++ (32 ∷ (subject ++ (32 ∷ (row ++ (32 ∷ (cell ++ (32 ∷ []))))))))) ++ side) ++ (32 ∷ den)) ++ flat_map (λ pair. 32 ∷ pair_token pair) terms) ++ (10 ∷ [])
    ≡ text ++ line_text (word ∷ subject ∷ row ∷ cell ∷ side ∷ den ∷ map pair_token terms)
need_appended text word subject row cell side den terms = rw (join_marked 32 pair_token den terms) (simp (append_assoc, cons_append, nil_append))

pub extra_appended : (extra : Extra) →
    (((([] ++ codes "argus contributors 1\n") ++ flat_map line_text (cells_tokens extra.cells)) ++ flat_map (λ need. line_text (need_tokens need)) extra.needs)
    ++ flat_map (λ line. line_text (guard_tokens line)) extra.guards) ++ codes "end\n"
    ≡ extra_text extra
extra_appended extra =
    let first = (contributors_line ∷ []) ∷ cells_tokens extra.cells in
    let second = first ++ map need_tokens extra.needs in
    let third = second ++ map guard_tokens extra.guards in
    sym (
    more line_text third ((codes "end" ∷ []) ∷ []) _ (
    more_by line_text guard_tokens second extra.guards _ (
    more_by line_text need_tokens first extra.needs _ refl)))
