mod Given
mod Promising
mod Schedules
