use Rattle.std.proofs.Common.{◌++◌, sym, subst}
use Rattle.microdata.specs.Feeding.{ReaderView, HasRead}
use Rattle.microdata.proofs.Cuts.{feed-fine, feed-stops, kept-fails, kept-any}
use Rattle.microdata.specs.OneRecord.{no_records}
use Rattle.microdata.proofs.reader.Reader.feed.Goals as goal

pub returns-in-Ok-clause-exact : goal.returns-in-Ok-clause-exact
returns-in-Ok-clause-exact c =
    λ layout bytes read.
    let r : ReaderView = record { measures = c.self.inside.measures; so_far = c.self.inside.so_far; begun = c.self.inside.begun.items; error = c.self.inside.error } in
    let h : HasRead r layout bytes = subst (λ (r : ReaderView). HasRead r layout bytes) (sym c.self.view_is) read in
    feed-fine r layout bytes c.args.piece.now c.take_bytes.new.so_far c.take_bytes.new.begun.items c.in_default.is h c.in-Ok.ensures.says c.in-Ok.ensures.plain c.in-Ok.ensures.short

pub returns-in-Err-clause-fed : goal.returns-in-Err-clause-fed
returns-in-Err-clause-fed c =
    λ layout bytes read.
    let r : ReaderView = record { measures = c.self.inside.measures; so_far = c.self.inside.so_far; begun = c.self.inside.begun.items; error = c.self.inside.error } in
    let h : HasRead r layout bytes = subst (λ (r : ReaderView). HasRead r layout bytes) (sym c.self.view_is) read in
    let stops = feed-stops r layout bytes c.args.piece.now c.in-Err.error c.in_default.is h c.in-Err.ensures.stops in
    record {
      measures = h.measures;
      kept = kept-any c.self.inside.measures (no_records layout) c.self.inside.so_far c.take_bytes.new.so_far (bytes ++ c.args.piece.now) c.self.inside.begun.items c.take_bytes.new.begun.items c.in-Err.error stops;
    }

pub returns-in-Err-clause-exact : goal.returns-in-Err-clause-exact
returns-in-Err-clause-exact c =
    λ layout bytes read.
    let r : ReaderView = record { measures = c.self.inside.measures; so_far = c.self.inside.so_far; begun = c.self.inside.begun.items; error = c.self.inside.error } in
    let h : HasRead r layout bytes = subst (λ (r : ReaderView). HasRead r layout bytes) (sym c.self.view_is) read in
    kept-fails r layout (bytes ++ c.args.piece.now) c.in-Err.error c.self.inside.so_far c.self.inside.begun.items h.measures (feed-stops r layout bytes c.args.piece.now c.in-Err.error c.in_default.is h c.in-Err.ensures.stops)
