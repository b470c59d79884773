use Rattle.std.proofs.Common.{◌≡◌, ◌∙◌, ◌+◌, ◌++◌, ◌∷◌, ℕ, List, [], ap, arith, rules, decimal}
use Rattle.std.proofs.Math.Utf8.{encode}
use Rattle.demo_files.specs.Draws.{next_state, draw_below}
use Rattle.demo_files.specs.Surveys.{filled_number, turnover}
use Rattle.demo_files.proofs.Drawing.{six-draws, line-is}
use Rattle.demo_files.proofs.survey.add_record.Goals as goal

pub returns-clause-state : goal.returns-clause-state
returns-clause-state c = six-draws _ _ _ _ _ _ _ c.draw.ensures.state c.draw-2.ensures.state c.draw-3.ensures.state c.draw-4.ensures.state c.draw-amount.ensures.state c.draw-rare.ensures.state

pub returns-clause-text : goal.returns-clause-text
returns-clause-text c =
    let line : c.in_ok-line.line.bytes.items ≡ 82 ∷ (c.in_ok-region.region.bytes.items ++ (encode c.from-industry.result ++ (decimal (1 + c.draw-3.result) ++ 83 ∷ (decimal (1 + c.draw-4.result) ++ (c.in_ok-turnover.turnover.bytes.items ++ 10 ∷ []))))) = c.in_ok-line.ensures.ok in
    let one = c.draw.ensures.state in
    let two = c.draw-2.ensures.state ∙ ap next_state one in
    let three = c.draw-3.ensures.state ∙ ap next_state two in
    let four = c.draw-4.ensures.state ∙ ap next_state three in
    let five = c.draw-amount.ensures.state ∙ ap next_state four in
    let six = c.draw-rare.ensures.state ∙ ap next_state five in
    let letter : c.from-industry.result ≡ 65 + c.draw-2.result = c.from-industry.ensures in
    let added : c.push_str.new.self.bytes.items ≡ c.args.text.now.bytes.items ++ c.in_ok-line.line.bytes.items = search rules in
    added ∙ ap (λ (more : List ℕ). c.args.text.now.bytes.items ++ more) (line-is _ _ _ _ _ _ _ _ _ _ _ _ c.args.state.now line
    (c.in_ok-region.ensures ∙ ap (λ n. filled_number 48 2 (1 + n)) c.draw.ensures.number)
    (letter ∙ ap (λ n. 65 + n) c.draw-2.ensures.number)
    (omega (arith, letter, c.draw-2.ensures.below))
    (ap (λ n. 1 + n) c.draw-3.ensures.number)
    (ap (λ n. 1 + n) c.draw-4.ensures.number)
    (c.in_ok-turnover.ensures ∙ ap (filled_number 32 7) (c.turnover_of.ensures ∙ ap (λ n. turnover n c.draw-rare.result) c.draw-amount.ensures.number ∙ ap (turnover (draw_below 10000 c.draw-amount.new.state)) c.draw-rare.ensures.number))
    one two three four five six)
