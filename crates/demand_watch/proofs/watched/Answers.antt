-- `watched` meets its contract: a granted feed came to what was watched, and a refused one was due.
use mathlib.Core.Path.{sym, ap, ◌∙◌}
use Rattle.terms.specs.Limits.{fresh_of}
use Rattle.terms.specs.Told.{told_written}
use Rattle.decoder.specs.Feeding.{Feeds}
use Rattle.demand_watch.proofs.WatchedAsFed.{Same, same_as_fed}
use Rattle.demand_watch.proofs.SameStates.{same_if, refused-due}
use Rattle.demand_watch.proofs.watched.Goals.{After-feed-fed, In-Ok}
use Rattle.demand_watch.proofs.watched.Goals as goal

-- what the feed did, from the fresh state
did : (c : After-feed-fed) → let a = c.args in
    Feeds (fresh_of a.room) a.text.now a.out.now a.list.now c.feed-fed.new.out c.feed-fed.new.list c.feed-fed.result
did c = rw c.fresh.ensures at c.feed-fed.ensures

-- where it was granted
same : (c : In-Ok) → let a = c.args in
    Feeds (fresh_of a.room) a.text.now a.out.now a.list.now c.feed-fed.new.out c.feed-fed.new.list c.feed-fed.result
    → Same c.watch_all-last.result c.feed-fed.result
same c did =
    let a = c.args in
    same_as_fed a.room a.text.now a.out.now a.list.now c.watch_all-last.result c.feed-fed.result c.watch_all-last.ensures
    did c.in-Ok.field-0 c.in-Ok.is

pub returns-then-last-fed : goal.returns-then-last-fed
returns-then-last-fed c =
    let at = goal.at.returns-then-last-fed c in
    let f = did at.After-feed-fed in
    record {
      yes = c.same_state.ensures ∙ same_if c.watch_all-last.result.state c.feed-fed.result.state (same at.In-Ok f).state;
      output = f.output;
      entries = f.entries;
    }

pub returns-else-last-fed : goal.returns-else-last-fed
returns-else-last-fed c =
    let at = goal.at.returns-else-last-fed c in
    absurd (c.if-last-fed.false (same at.In-Ok (did at.After-feed-fed)).reply)

pub returns-in-Err : goal.returns-in-Err
returns-in-Err c =
    let a = c.args in
    let f = did (goal.at.returns-in-Err c).After-feed-fed in
    record {
      yes =
          rw (c.feed-fed.auto.out, c.feed-fed.auto.list) at c.is_due.ensures
          ∙ refused-due a.room a.text.now a.out.now a.list.now c.in-Err.why
          (sym (ap told_written c.in-Err.is) ∙ f.answer);
      output = f.output;
      entries = f.entries;
    }
