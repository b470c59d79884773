-- The records of a made survey: firms with a region, an industry, a size and a turnover, drawn from a seed (own).
use Rattle.std.specs.Prelude.{ℕ, ◌+◌, ◌*◌, ◌-◌, ◌==◌, List, [], ◌∷◌, ◌++◌, length, replicate, codes, decimal, if◌then◌else◌}
use Rattle.std.specs.List.{flat_map, range_with_len}
use Rattle.demo_files.specs.Draws.{state_after, draw_below}

-- a number in so many places, with the same byte in those before its digits
abbrev pub filled_number : ℕ → ℕ → ℕ → List ℕ
filled_number byte places n = replicate (places - length (decimal n)) byte ++ decimal n

-- a turnover of 1 to 10,000 by one draw, 50 times as much where the next draw is one in twenty
abbrev pub turnover : ℕ → ℕ → ℕ
turnover amount rare = if rare == 0 then (1 + amount) * 50 else 1 + amount

-- The line of a record, by the state before its six draws: the region R01 to R12, the industry A1 to D5, the size S1 to
-- S4 and the turnover in seven places, each from the next draws.
abbrev pub record_line : ℕ → List ℕ
record_line state =
    codes "R" ++ (filled_number 48 2 (1 + draw_below 12 (state_after 1 state))
    ++ ((65 + draw_below 4 (state_after 2 state)) ∷ decimal (1 + draw_below 5 (state_after 3 state))
    ++ (codes "S" ++ (decimal (1 + draw_below 4 (state_after 4 state))
    ++ (filled_number 32 7 (turnover (draw_below 10000 (state_after 5 state)) (draw_below 20 (state_after 6 state)))
    ++ 10 ∷ [])))))

-- the lines of so many records, each behind the draws of those before it
abbrev pub survey : ℕ → ℕ → List ℕ
survey seed records = flat_map (λ k. record_line (state_after (k * 6) seed)) (range_with_len 0 records)
