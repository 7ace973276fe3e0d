use Rattle.std.proofs.Common.{refl, sym, ◌∙◌}
use Rattle.operations.proofs.Starts.{no_room, no_policy, begun}
use Rattle.dedakhumi.proofs.start.start.Goals as goal

pub returns-in_default : goal.returns-in_default
returns-in_default c =
    rw (no_room c.args.t.now c.args.policy c.in_default.ensures.cases) (record { answer = refl; table = refl })

pub returns-then-not-policy_fits : goal.returns-then-not-policy_fits
returns-then-not-policy_fits c =
    rw (no_policy c.args.t.now c.args.policy c.in-Some.ensures.cases.long (sym c.policy_fits.ensures ∙ c.if-not-policy_fits.true))
    (record { answer = refl; table = c.in-Some.ensures.cases.same })

pub returns : goal.returns
returns c =
    rw (begun c.args.t.now c.args.policy c.in-Some.ensures.cases.long (sym c.policy_fits.ensures ∙ c.if-not-policy_fits.false))
    (record { answer = refl; table = c.write_fresh.ensures })
