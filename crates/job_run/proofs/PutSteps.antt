-- One more put.
use Rattle.std.proofs.Common.{◌≡◌, ℕ, zero, suc, arith, ◌+◌, ◌<◌, List, [], ◌∷◌, ◌++◌, length, take, get_or, Option, None, Some, option_map, refl, ap, sym, ◌∙◌, inl, inr}
use Rattle.std.proofs.lemmas.List.{take_more}
use Rattle.std.proofs.lemmas.Option.{slice_get_read}
use Rattle.sdc_base.specs.Counts.{count_after}
use Rattle.office_io.specs.Files.{Files, files_after_put}
use Rattle.office_io.specs.Trays.{TrayState, HasPutInPart}
use Rattle.job_run.specs.Puts.{put_all, OneInPart, SomeWhole}
use Rattle.job_inputs.specs.declared.file_ref.FileRef.{FileRef}
use Rattle.job_run.specs.declared.put.FilePut.{FilePut}

put_all-push : (out : Files) (puts : List FilePut) (p : FilePut) → put_all out (puts ++ p ∷ []) ≡ files_after_put (put_all out puts) p.name p.bytes
put_all-push out [] p = refl
put_all-push out (q ∷ puts) p = put_all-push (files_after_put out q.name q.bytes) puts p

-- a put after the puts so far
pub put-more : (puts : List FilePut) (i : ℕ) (p : FilePut) (start old new : Option Files) → i < length puts → p ≡ get_or puts i p →
    old ≡ option_map (λ out. put_all out (take i puts)) start → new ≡ option_map (λ out. files_after_put out p.name p.bytes) old →
    new ≡ option_map (λ out. put_all out (take (i + 1) puts)) start
put-more puts i p None old new below is before after = rw after (rw before refl)
put-more puts i p (Some out) old new below is before after =
    let more : take (i + 1) puts ≡ take i puts ++ p ∷ [] = take_more puts i p below ∙ ap (λ q. take i puts ++ q ∷ []) (sym is) in
    after ∙ rw before (ap Some (sym (put_all-push out (take i puts) p) ∙ ap (put_all out) (sym more)))

-- one put more, counted
pub counted-more : (before after : ℕ) (start i : ℕ) → (i ≡ 0 → before ≡ start) → (0 < i → before ≡ count_after start i) → after ≡ count_after before 1 → after ≡ count_after start (i + 1)
counted-more before after start zero none once more = omega (arith, none refl, more)
counted-more before after start (suc i) none once more = omega (arith, once (omega arith), more)

-- a put that stopped after some bytes
pub put-part : (puts : List FilePut) (i : ℕ) (p : FilePut) (f : FileRef) (start old new : TrayState) → i < length puts → p ≡ get_or puts i p → p.file ≡ f
    → old.files ≡ option_map (λ out. put_all out (take i puts)) start.files → (i ≡ 0 → old ≡ start) → (0 < i → old.puts ≡ count_after start.puts i) → HasPutInPart p.name p.bytes old new → OneInPart puts f start new
put-part puts i p f start old new below is named before none once part = (
  i,
  part.files.0,
  record {
    next = p;
    is_next = slice_get_read puts (length puts) i p refl below is;
    is_of = named;
    files = part.files.1 ∙ rw before (after_all part.files.0 start.files);
    puts_made = counted-more old.puts new.puts start.puts i (λ first. ap (λ (t : TrayState). t.puts) (none first)) once part.puts;
  },
)
  where
    after_all : (n : ℕ) (o : Option Files) → option_map (λ out. files_after_put out p.name (take n p.bytes)) (option_map (λ out. put_all out (take i puts)) o) ≡ option_map (λ out. files_after_put (put_all out (take i puts)) p.name (take n p.bytes)) o
    after_all n None = refl
    after_all n (Some out) = refl

-- the puts so far, where memory was wanting for the next
pub some-whole : (puts : List FilePut) (i : ℕ) (start old new : TrayState) → i < length puts → old.files ≡ option_map (λ out. put_all out (take i puts)) start.files → (i ≡ 0 → old ≡ start) → (0 < i → old.puts ≡ count_after start.puts i)
    → new ≡ old → SomeWhole puts start new
some-whole puts zero start old new below before none once same = inl (same ∙ none refl)
some-whole puts (suc i) start old new below before none once same =
    inr (suc i, record { not_all = below; files = ap (λ (t : TrayState). t.files) same ∙ before; puts_made = ap (λ (t : TrayState). t.puts) same ∙ once (omega arith) })
