-- A field as the csv writer writes it is a field of a table.
use Rattle.std.proofs.Common.{◌≡◌, ℕ, Bool, true, false, cond, ◌||◌, ◌==◌, List, [], ◌∷◌, refl, ap, ◌∙◌}
use Rattle.std.specs.List.{list_any}
use Rattle.csv.specs.Writing.{default_writer, needs_quotes, needs_byte, escaped, field_text}
use Rattle.sdc_base.specs.TableText.{is_special, quotes_doubled}
use Rattle.sdc_base.specs.TableText.{field_text as own_text}

or-shapes : (p q r s : Bool) → (((p || q) || (r || s)) || false) || false ≡ (p || (q || (r || s)))
or-shapes true q r s = refl
or-shapes false true r s = refl
or-shapes false false true s = refl
or-shapes false false false true = refl
or-shapes false false false false = refl

special : (b : ℕ) → needs_byte default_writer b ≡ is_special b
special b = or-shapes (b == 44) (b == 34) (b == 13) (b == 10)

any-special : (field : List ℕ) → needs_quotes default_writer field ≡ list_any is_special field
any-special [] = refl
any-special (b ∷ field) = ap (λ t. t || list_any (needs_byte default_writer) field) (special b) ∙ ap (λ t. is_special b || t) (any-special field)

escaped-doubled : (field : List ℕ) → escaped default_writer field ≡ quotes_doubled field
unfolding escaped
escaped-doubled [] = refl
escaped-doubled (b ∷ field) = elim (b == 34) as (λ t. cond t (34 ∷ b ∷ escaped default_writer field) (b ∷ escaped default_writer field) ≡ cond t (34 ∷ b ∷ quotes_doubled field) (b ∷ quotes_doubled field)) [
  | true ↦ ap (λ xs. 34 ∷ b ∷ xs) (escaped-doubled field)
  | false ↦ ap (λ xs. b ∷ xs) (escaped-doubled field)
]

pub field-same : (field : List ℕ) → field_text default_writer field ≡ own_text field
field-same field = rw (any-special field, escaped-doubled field) refl
