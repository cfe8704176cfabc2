-- The pace of a walk: how many segments are read one by one before the next run is looked for. No answer depends on it.
use Rattle.std.specs.Prelude.{ℕ, ◌-◌, ◌*◌, cond, List, leb, ltb, eqb}
use Rattle.utf8_check.specs.Run.{whole_run}
use Rattle.utf8_check.specs.declared.pace.Pace.{Pace}

-- how many segments are read one by one behind a run: one, or twice as many as behind the last one where it was short
abbrev pub wait_behind : ℕ → ℕ → ℕ
wait_behind wait run = cond (leb 16 run) 1 (cond (leb 1024 wait) 1024 (2 * wait))

-- how many bytes of a text are passed over at once: its whole run, or none where segments are read one by one
unfoldable pub paced_run : List ℕ → Pace → ℕ
paced_run text p = cond (ltb 0 p.left) 0 (whole_run text)

-- that many, of which one is the segment behind the run
abbrev pub pace_behind : Pace → ℕ → Pace
pace_behind p run =
    let wait = wait_behind p.wait run in
    cond (ltb 0 p.left) (record { left = p.left - 1; wait = p.wait })
    (cond (eqb wait 0) (record { left = 0; wait = 1 }) (record { left = wait - 1; wait = wait }))
