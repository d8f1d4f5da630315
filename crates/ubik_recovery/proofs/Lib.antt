mod Best
mod Places
mod RuleSteps
