-- The head of the bucket, the search along its chain, and what the link that is found says (`fit_none`, `fit_some`).
use mathlib.Core.Path.{refl}
use Rattle.steps.proofs.Links.{chains_lead, along_first, along_none, fit_none, fit_some}
use Rattle.steps.proofs.lookup.first_reading.Goals as goal

pub returns-then-head-eq0 : goal.returns-then-head-eq0
returns-then-head-eq0 c = λ from leaving.
    let a = c.args in
    let leads = chains_lead a.q a.label c.label_bucket.result c.requires.1 c.requires.2 c.label_bucket.ensures.0 c.label_bucket.ensures.1 in
    fit_none a.label _ leaving (along_none leads (along_first leads) c.if-head-eq0.true) refl

pub returns-then-link-eq0 : goal.returns-then-link-eq0
returns-then-link-eq0 c = λ from leaving.
    let a = c.args in
    let leads = chains_lead a.q a.label c.label_bucket.result c.requires.1 c.requires.2 c.label_bucket.ensures.0 c.label_bucket.ensures.1 in
    fit_none a.label c.along-link.result leaving (c.along-link.ensures 0 leads) c.if-link-eq0.true

pub returns : goal.returns
returns c = λ from leaving.
    let a = c.args in
    let leads = chains_lead a.q a.label c.label_bucket.result c.requires.1 c.requires.2 c.label_bucket.ensures.0 c.label_bucket.ensures.1 in
    fit_some a.label c.along-link.result leaving (c.along-link.ensures 0 leads) c.if-link-eq0.false
