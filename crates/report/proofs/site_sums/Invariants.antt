use Rattle.records.specs.Records.{plant_place}
use Rattle.report.proofs.Summing.{SitesBefore}
use Rattle.report.proofs.site_sums.Given as goal

abbrev pub invariant-loop-held : goal.invariant-loop-held
invariant-loop-held l = SitesBefore (plant_place l.plants) l.held-index l.sites
