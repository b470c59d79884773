-- What the lines of a certificate say of the method and of counts, or the first fault (own).
use Rattle.std.specs.Prelude.{ℕ, List, codes, if◌then◌else◌, Result, Ok, Err}
use Rattle.std.specs.Str.{bytes_eq}
use Rattle.sdc_base.specs.Steps.{◌>>=◌}
use Rattle.sdc_base.specs.declared.method.Method.{Method}
use Rattle.sdc_base.specs.declared.method.Method.TheVariants as method
use Rattle.certificate.specs.declared.faults.CertWhy.{CertWhy}
use Rattle.certificate.specs.declared.faults.CertWhy.TheVariants.{Shape}
use Rattle.certificate.specs.Numerals.{natural_of, integer_of}
use Rattle.certificate.specs.TokenLists.{first_of, end_of, only_of}

-- a method with a number of passes
unfoldable pub passes_of : List (List ℕ) → Result Method CertWhy
passes_of tokens = do
  token ← only_of tokens
  passes ← natural_of 0 token
  Ok (method.Gh passes)

-- a method with a base
unfoldable pub method_by_base : List (List ℕ) → Result Method CertWhy
method_by_base tokens = do
  token ← only_of tokens
  base ← integer_of token
  Ok (method.Rnd base)

-- the method without a number
unfoldable pub modular_of : List (List ℕ) → Result Method CertWhy
modular_of tokens = do
  end ← end_of tokens
  Ok method.Modular

-- the method of this word
abbrev pub method_by : List ℕ → List (List ℕ) → Result Method CertWhy
method_by word tokens =
    if bytes_eq word (codes "MOD") then modular_of tokens
    else if bytes_eq word (codes "GH") then passes_of tokens
    else if bytes_eq word (codes "RND") then method_by_base tokens
    else Err Shape

-- a method
unfoldable pub method_of : List (List ℕ) → Result Method CertWhy
method_of tokens = do
  word ← first_of tokens
  method_by word.0 word.1

-- a count
unfoldable pub count_of : List (List ℕ) → Result ℕ CertWhy
count_of tokens = do
  token ← only_of tokens
  natural_of 0 token
