use Rattle.plans_choice.proofs.parts.push_time.Goals as goal

pub returns-in_ok-push : goal.returns-in_ok-push
returns-in_ok-push c = (c.in-Some.time, (c.in-Some.ensures.value, c.in_ok-push.ensures.items))
